-- Entries that go to the end one by one, until each has done so once.
use Rattle.std.proofs.Common.{◌≡◌, ℕ, ◌+◌, ◌<◌, ◌≤◌, Bool, true, false, List, [], ◌∷◌, ◌++◌, length, drop, get_or, refl, sym, ◌∙◌, ap, arith, append_assoc, append-nil}
use Rattle.std.specs.Prelude.{◌||◌, remove, slice_get, Some}
use Rattle.std.proofs.Math.ListN.{drop_of_length-le}
use Rattle.std.proofs.lemmas.List.{drop_more}
use Rattle.horn_clauses.specs.declared.atom.Atom.{Atom}
use Rattle.horn_clauses.specs.declared.node.Node.{Node}
use Rattle.horn_clauses.specs.Node.{is_same_node}
use Rattle.houdini.specs.Striking.{struck_among, turned, after_turn, found_after}

abbrev Entries : Type 0
Entries = List (Node × List Atom)

-- what is to come of these entries, once the node is found, or before
abbrev pub to_come : Node → ℕ → Bool → Entries → Entries
to_come node i true entries = entries
to_come node i false entries = struck_among node i entries

-- So many entries have gone to the end: what they became, and what is to come of the others, is what the call returns.
pub record HaveTurned (node : Node) (i : ℕ) (entries : Entries) (done : ℕ) (found : Bool) (now : Entries) : Type 0 where
  pub behind : Entries
  pub is : now ≡ drop done entries ++ behind
  pub whole : behind ++ to_come node i found (drop done entries) ≡ struck_among node i entries

pub none_has_turned : (node : Node) (i : ℕ) (entries : Entries) → HaveTurned node i entries 0 false entries
none_has_turned node i entries = record { behind = []; is = sym (append-nil entries); whole = refl }

one_by : (node : Node) (i : ℕ) (found same : Bool) (entry : Node × List Atom) (entries : Entries) → is_same_node entry.0 node ≡ same
    → to_come node i found (entry ∷ entries) ≡ turned node i found entry ∷ to_come node i (found || is_same_node entry.0 node) entries
one_by node i true same entry entries is = refl
one_by node i false true entry entries is = rw is refl
one_by node i false false entry entries is = rw is refl

module _ (node : Node) (i : ℕ) (entries : Entries) (done : ℕ) (found : Bool) (now : Entries) (inside : done < length entries)
    (turned_so_far : HaveTurned node i entries done found now) where
  abbrev entry : Node × List Atom
  entry = get_or entries done (node, [])

  abbrev others : Entries
  others = drop (done + 1) entries

  split : drop done entries ≡ entry ∷ others
  split = drop_more entries done (node, []) inside

  now_is : now ≡ entry ∷ (others ++ turned_so_far.behind)
  now_is = turned_so_far.is ∙ ap (λ (es : Entries). es ++ turned_so_far.behind) split

  pub one_has_turned : HaveTurned node i entries (done + 1) (found_after node found now) (after_turn node i found now)
  one_has_turned = record {
    behind = turned_so_far.behind ++ turned node i found entry ∷ [];
    is = ap (after_turn node i found) now_is ∙ append_assoc others turned_so_far.behind (turned node i found entry ∷ []);
    whole =
        ap (λ (es : Entries). (turned_so_far.behind ++ turned node i found entry ∷ []) ++ to_come node i (found_after node found es) others) now_is
        ∙ append_assoc turned_so_far.behind (turned node i found entry ∷ []) (to_come node i (found || is_same_node entry.0 node) others)
        ∙ ap (λ (es : Entries). turned_so_far.behind ++ es) (sym (one_by node i found (is_same_node entry.0 node) entry others refl))
        ∙ ap (λ (es : Entries). turned_so_far.behind ++ to_come node i found es) (sym split)
        ∙ turned_so_far.whole;
  }

  pub is_left : 0 < length now
  is_left = let long = ap length now_is in omega (arith, long)

to_come_none : (node : Node) (i : ℕ) (found : Bool) → to_come node i found [] ≡ []
to_come_none node i true = refl
to_come_none node i false = refl

pub all_have_turned : (node : Node) (i : ℕ) (entries : Entries) (done : ℕ) (found : Bool) (now : Entries) → length entries ≤ done
    → HaveTurned node i entries done found now → now ≡ struck_among node i entries
all_have_turned node i entries done found now past turned_all =
    let none : drop done entries ≡ [] = drop_of_length-le entries past in
    turned_all.is
    ∙ ap (λ (es : Entries). es ++ turned_all.behind) none
    ∙ sym (append-nil turned_all.behind)
    ∙ ap (λ (es : Entries). turned_all.behind ++ es) (sym (ap (to_come node i found) none ∙ to_come_none node i found))
    ∙ turned_all.whole

pub found_first : (node : Node) (found : Bool) (entries : Entries) (first : Node × List Atom) → slice_get entries 0 ≡ Some first
    → found_after node found entries ≡ (found || is_same_node first.0 node)
found_first node found [] first is = absurd cc
found_first node found (other ∷ entries) first is =
    let same : other ≡ first = cc in ap (λ (e : Node × List Atom). found || is_same_node e.0 node) same

pub turn_is : (node : Node) (i : ℕ) (found : Bool) (entries : Entries) (first : Node × List Atom) (left : Entries) (given : Node × List Atom)
    (now : Entries) → slice_get entries 0 ≡ Some first → left ≡ remove entries 0 → given ≡ turned node i found first
    → now ≡ left ++ given ∷ [] → now ≡ after_turn node i found entries
turn_is node i found [] first left given now is left_is given_is now_is = absurd cc
turn_is node i found (other ∷ entries) first left given now is left_is given_is now_is =
    let same : other ≡ first = cc in
    now_is
    ∙ ap (λ (es : Entries). es ++ given ∷ []) left_is
    ∙ ap (λ (e : Node × List Atom). entries ++ e ∷ []) given_is
    ∙ ap (λ (e : Node × List Atom). entries ++ turned node i found e ∷ []) (sym same)
