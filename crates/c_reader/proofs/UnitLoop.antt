-- Items that are read one after the other by a loop.
use Rattle.std.proofs.Common.{◌≡◌, map, ℕ, zero, suc, ◌<◌, List, [], ◌∷◌, ◌++◌, length, Option, Some, None, refl, sym, ap, subst, ◌∙◌, append_assoc, arith}
use Rattle.std.specs.Prelude.{option_to_list, option_map}
use Rattle.std.proofs.lemmas.List.{append-nil}
use Rattle.c_ast.specs.RawTree.{RawFunction}
use Rattle.c_tokens.specs.declared.token.Token.{Token}
use Rattle.c_reader.specs.ReadExpressions.{◌>>=◌}
use Rattle.c_reader.specs.ReadUnits.{item_at, items_within, unit_at}
use Rattle.c_reader.proofs.Reading.{step}
use Rattle.c_reader.proofs.UnitSoundness.{item_at-shorter}

-- functions that are read, behind those that were read before
abbrev after : List RawFunction → Option (List RawFunction) → Option (List RawFunction)
after made reading = reading >>= λ funcs. Some (made ++ funcs)

after-nothing : (reading : Option (List RawFunction)) → after [] reading ≡ reading
after-nothing None = refl
after-nothing (Some funcs) = refl

after-more : (made item : List RawFunction) (reading : Option (List RawFunction))
    → after made (reading >>= λ funcs. Some (item ++ funcs)) ≡ after (made ++ item) reading
after-more made item None = refl
after-more made item (Some funcs) = ap Some (sym (append_assoc made item funcs))

-- Behind what is read so far comes the rest of all.
pub record ItemsSoFar (room : ℕ) (made : List RawFunction) (others : List Token) (whole : Option
    (List RawFunction)) : Type 0 where
  pub fuel : ℕ
  pub enough : length others < fuel
  pub same : after made (items_within room fuel others) ≡ whole

pub items-start : (room : ℕ) (tokens : List Token) → ItemsSoFar room [] tokens (unit_at room tokens)
unfolding unit_at
items-start room tokens = record {
  fuel = suc (length tokens);
  enough = omega arith;
  same = after-nothing (items_within room (suc (length tokens)) tokens);
}

end-by : (room n : ℕ) (made : List RawFunction) (whole : Option (List RawFunction)) → 0 < n
    → after made (items_within room n []) ≡ whole → whole ≡ Some made
end-by room zero made whole some same = absurd (omega (arith, some))
end-by room (suc n) made whole some same = sym same ∙ ap Some (append-nil made)

pub items-end : (room : ℕ) (made : List RawFunction) (others : List Token) (whole : Option (List RawFunction))
    → ItemsSoFar room made others whole → others ≡ [] → whole ≡ Some made
items-end room made others whole so_far none =
    end-by room so_far.fuel made whole (omega (arith, so_far.enough))
    (subst (λ (l : List Token). after made (items_within room so_far.fuel l) ≡ whole) none so_far.same)

refused-by : (room n : ℕ) (made : List RawFunction) (others : List Token) (whole : Option (List RawFunction))
    → (others ≡ [] → ⊥) → after made (items_within room n others) ≡ whole → item_at room others ≡ None → whole ≡ None
refused-by room zero made others whole some same none = sym same
refused-by room (suc n) made [] whole some same none = absurd (some refl)
refused-by room (suc n) made (first ∷ others) whole some same none =
    sym same ∙ ap (λ o. after made (o >>= λ x. items_within room n x.1 >>= λ funcs. Some (option_to_list x.0 ++ funcs))) none

pub items-refused : (room : ℕ) (made : List RawFunction) (others : List Token) (whole : Option (List RawFunction))
    → (others ≡ [] → ⊥) → ItemsSoFar room made others whole → item_at room others ≡ None → whole ≡ None
items-refused room made others whole some so_far none =
    refused-by room so_far.fuel made others whole some so_far.same none

read-by : (room n : ℕ) (made : List RawFunction) (item : Option RawFunction) (others behind : List Token)
    (whole : Option (List RawFunction)) → (others ≡ [] → ⊥) → length others < n
    → after made (items_within room n others) ≡ whole → item_at room others ≡ Some (item, behind)
    → ItemsSoFar room (made ++ option_to_list item) behind whole
read-by room zero made item others behind whole some enough same read = absurd (omega (arith, enough))
read-by room (suc n) made item [] behind whole some enough same read = absurd (some refl)
read-by room (suc n) made item (first ∷ others) behind whole some enough same read = record {
  fuel = n;
  enough = omega (arith, enough, item_at-shorter room (first ∷ others) (item, behind) read);
  same = sym (after-more made (option_to_list item) (items_within room n behind)) ∙ sym (ap (after made)
      (step (λ x. items_within room n x.1 >>= λ funcs. Some (option_to_list x.0 ++ funcs)) (item, behind) read refl)) ∙ same;
}

pub items-read : (room : ℕ) (made new : List RawFunction) (item : Option RawFunction) (others behind : List Token)
    (whole : Option (List RawFunction)) → (others ≡ [] → ⊥) → ItemsSoFar room made others whole
    → item_at room others ≡ Some (item, behind) → new ≡ made ++ option_to_list item → ItemsSoFar room new behind whole
items-read room made new item others behind whole some so_far read pushed =
    subst (λ (l : List RawFunction). ItemsSoFar room l behind whole) (sym pushed)
    (read-by room so_far.fuel made item others behind whole some so_far.enough so_far.same read)

pub map-option : {X Y : Type 0} (f : X → Y) (x : Option X) → map f (option_to_list x) ≡ option_to_list (option_map f x)
map-option f None = refl
map-option f (Some x) = refl
