-- The pairs and the candidates that a pool keeps beside its history.
use Rattle.std.proofs.Common.{◌≡◌, ◌∙◌, ℕ, zero, suc, ◌<◌, ◌≤◌, ◌+◌, ◌-◌, List, [], ◌∷◌, ◌++◌, length, map, take, drop, get_or, slice_set, All, refl, sym, ap, subst, add-one, arith, append_assoc, length-append, drop-cons}
use Rattle.std.proofs.lemmas.List.{append-nil, length-map, take-append-le, take_more, take_all}
use Rattle.std.proofs.lemmas.List.Sums.{fold-append}
use Rattle.std.proofs.lemmas.Option.{slice_get_within, get_or_from_slice_get, slice_get-map}
use Rattle.std.specs.Prelude.{Option, Some, None, slice_get, IsSomeAnd}
use Rattle.std.specs.Option.{option_map}
use Rattle.alignment.specs.Number.{IsAlignment}
use Rattle.miners.specs.Candidates.{AreMinedFrom}
use Rattle.miners.specs.Gathered.{Gathered, nothing_gathered, with_pair, family_of}
use Rattle.live_mining.specs.Laws.{with_pairs}
use Rattle.live_mining.proofs.Laws.{live_candidates_are_mined}
use Rattle.c_ast.specs.declared.trace.Pair.{Pair}
use Rattle.c_ast.specs.Comparison.{Comparison}
use Rattle.horn_clauses.specs.declared.family.Family.{Family}
use Rattle.trace_pair.specs.declared.skipped.Skipped.{Skipped}
use Rattle.pool_core.specs.declared.item.Item.{Item}
use Rattle.pool_core.specs.declared.item.Item.TheVariants as item
use Rattle.pool_core.specs.declared.verdict.Why.{Why}
use Rattle.pool_core.specs.declared.verdict.Verdict.{Verdict}
use Rattle.pool_core.specs.declared.pages.Added.{Added}
use Rattle.pool_core.specs.declared.lives.Front.{Front}
use Rattle.pool_core.specs.History.{pairs_of, indexes_of, workers_of}
use Rattle.pool_core.specs.Beside.{added_of, IsFront, AreFronts}

-- ---- the pairs

-- The pair with its worker and its index.
abbrev pub added_pair : ℕ → ℕ → Pair → Added
added_pair worker index pair = record { worker = worker; index = index; pair = pair }

-- What is added, without the workers and the indexes, are the pairs.
pub pairs_added : (items : List Item) → map (λ (added : Added). added.pair) (added_of items) ≡ pairs_of items
pairs_added [] = refl
pairs_added (item.Pair worker index pair ∷ items) = ap (λ (pairs : List Pair). pair ∷ pairs) (pairs_added items)
pairs_added (_ ∷ items) = pairs_added items

-- Their indexes are those of the pairs.
pub indexes_added : (items : List Item) → map (λ (added : Added). added.index) (added_of items) ≡ indexes_of items
indexes_added [] = refl
indexes_added (item.Pair worker index pair ∷ items) = ap (λ (indexes : List ℕ). index ∷ indexes) (indexes_added items)
indexes_added (_ ∷ items) = indexes_added items

-- And so are their workers.
pub workers_added : (items : List Item) → map (λ (added : Added). added.worker) (added_of items) ≡ workers_of items
workers_added [] = refl
workers_added (item.Pair worker index pair ∷ items) = ap (λ (workers : List ℕ). worker ∷ workers) (workers_added items)
workers_added (_ ∷ items) = workers_added items

-- What more items add stands at the end.
pub added_append : (items more : List Item) → added_of (items ++ more) ≡ added_of items ++ added_of more
added_append [] more = refl
added_append (item.Pair worker index pair ∷ items) more =
    ap (λ (added : List Added). added_pair worker index pair ∷ added) (added_append items more)
added_append (_ ∷ items) more = added_append items more

-- A pair is added at the end.
pub added_with_pair : (items : List Item) (worker index : ℕ) (pair : Pair)
    → added_of (items ++ item.Pair worker index pair ∷ []) ≡ added_of items ++ record { worker = worker; index = index; pair = pair } ∷ []
added_with_pair items worker index pair = added_append items (item.Pair worker index pair ∷ [])

-- A skipped sample adds none.
pub added_with_skipped : (items : List Item) (worker index : ℕ) (skipped : Skipped)
    → added_of (items ++ item.Skipped worker index skipped ∷ []) ≡ added_of items
added_with_skipped items worker index skipped =
    added_append items (item.Skipped worker index skipped ∷ []) ∙ append-nil (added_of items)

-- Nor do candidates.
pub added_with_mined : (items : List Item) (worker prefix alignment : ℕ) (candidates : Family)
    → added_of (items ++ item.Mined worker prefix alignment candidates ∷ []) ≡ added_of items
added_with_mined items worker prefix alignment candidates =
    added_append items (item.Mined worker prefix alignment candidates ∷ []) ∙ append-nil (added_of items)

-- Nor does an alignment that was tried.
pub added_with_tried : (items : List Item) (worker prefix alignment : ℕ) (why : Why)
    → added_of (items ++ item.Tried worker prefix alignment why ∷ []) ≡ added_of items
added_with_tried items worker prefix alignment why =
    added_append items (item.Tried worker prefix alignment why ∷ []) ∙ append-nil (added_of items)

-- Nor does the verdict.
pub added_with_posted : (items : List Item) (worker : ℕ) (verdict : Verdict)
    → added_of (items ++ item.Posted worker verdict ∷ []) ≡ added_of items
added_with_posted items worker verdict =
    added_append items (item.Posted worker verdict ∷ []) ∙ append-nil (added_of items)

-- ---- lists

-- What holds of all holds of the one at a place.
pub all_at : {X : Type 0} (P : X → Type 0) (xs : List X) (at : ℕ) (x : X) → All P xs → slice_get xs at ≡ Some x → P x
all_at P xs at x all found =
    subst (λ y. P y) (get_or_from_slice_get xs at x x found) (all at x (slice_get_within xs at x found))

-- The index of the next pair is the next one.
pub next_index : (added : List Added) (made all : List ℕ) (at : ℕ) (more : Added) → slice_get added at ≡ Some more
    → made ++ drop at (map (λ (each : Added). each.index) added) ≡ all
    → (made ++ more.index ∷ []) ++ drop (at + 1) (map (λ (each : Added). each.index) added) ≡ all
next_index added made all at more found had =
    let size : at < length (map (λ (each : Added). each.index) added) = simp length-map (slice_get_within added at more found) in
    let index : get_or (map (λ (each : Added). each.index) added) at more.index ≡ more.index =
    get_or_from_slice_get (map (λ (each : Added). each.index) added) at more.index more.index
    (slice_get-map (λ (each : Added). each.index) added at ∙ ap (option_map (λ (each : Added). each.index)) found) in
    let step : drop at (map (λ (each : Added). each.index) added) ≡ more.index ∷ drop (at + 1) (map (λ (each : Added). each.index) added) =
    rw (add-one, drop-cons (map (λ (each : Added). each.index) added) at more.index, index) refl in
    append_assoc made (more.index ∷ []) (drop (at + 1) (map (λ (each : Added). each.index) added))
    ∙ ap (λ (behind : List ℕ). made ++ behind) (sym step) ∙ had

-- ---- live candidates

-- What follows of what holds of a value holds of it.
pub some_and : {T : Type 0} (found : Option T) (P Q : T → Type 0) → ((x : T) → P x → Q x) → IsSomeAnd found P → IsSomeAnd found Q
some_and None P Q follows holds = holds
some_and (Some x) P Q follows holds = follows x holds

-- What is kept stays mined of the first so many pairs where one is added.
front_goes_on : (subject : Comparison) (pairs : List Pair) (pair : Pair) (alignment : ℕ) (front : Front)
    → IsFront subject pairs alignment front → IsFront subject (pairs ++ pair ∷ []) alignment front
front_goes_on subject pairs pair alignment front is = record {
  within = omega (arith, is.within, length-append pairs (pair ∷ []));
  mined = rw (take-append-le front.count pairs (pair ∷ []) is.within) is.mined;
}

-- Fronts stay fronts where a pair is added.
pub fronts_go_on : (subject : Comparison) (pairs : List Pair) (pair : Pair) (fronts : List Front)
    → AreFronts subject pairs fronts → AreFronts subject (pairs ++ pair ∷ []) fronts
fronts_go_on subject pairs pair fronts are = λ alignment named.
    some_and (slice_get fronts (alignment - 1)) (IsFront subject pairs alignment) (IsFront subject (pairs ++ pair ∷ []) alignment)
    (front_goes_on subject pairs pair alignment) (are alignment named)

-- ---- one alignment's

-- The pairs of what was added.
abbrev pub pairs_from : List Added → List Pair
pairs_from added = map (λ (each : Added). each.pair) added

-- What is kept is mined of one pair more where the next one is added.
pub front_grows : (subject : Comparison) (added : List Added) (alignment : ℕ) (front next : Front) (more : Added)
    → IsFront subject (pairs_from added) alignment front → slice_get added front.count ≡ Some more
    → next.live ≡ with_pair front.live more.pair → next.count ≡ front.count + 1 → IsFront subject (pairs_from added) alignment next
front_grows subject added alignment front next more is found live count =
    let within : front.count < length added = slice_get_within added front.count more found in
    let last : get_or (pairs_from added) front.count more.pair ≡ more.pair =
    get_or_from_slice_get (pairs_from added) front.count more.pair more.pair
    (slice_get-map (λ (each : Added). each.pair) added front.count ∙ ap (option_map (λ (each : Added). each.pair)) found) in
    let size : front.count < length (pairs_from added) = simp length-map within in
    let taken : take next.count (pairs_from added) ≡ take front.count (pairs_from added) ++ more.pair ∷ [] =
    rw (count, take_more (pairs_from added) front.count more.pair size, last) refl in
    record {
      within = omega (arith, count, size);
      mined = live ∙ ap (λ (had : Gathered). with_pair had more.pair) is.mined
          ∙ sym (fold-append with_pair (nothing_gathered subject alignment) (take front.count (pairs_from added)) (more.pair ∷ []))
          ∙ ap (λ (pairs : List Pair). with_pairs (nothing_gathered subject alignment) pairs) (sym taken);
    }

-- What holds where a place is set: of the new value there, and of those elsewhere.
set_some : {X : Type 0} (xs : List X) (i k : ℕ) (y : X) (P : X → Type 0)
    → IsSomeAnd (slice_get xs k) P → (k ≡ i → P y) → IsSomeAnd (slice_get (slice_set xs i y) k) P
set_some [] i k y P holds here = holds
set_some (x ∷ xs) zero zero y P holds here = here refl
set_some (x ∷ xs) zero (suc k) y P holds here = holds
set_some (x ∷ xs) (suc i) zero y P holds here = holds
set_some (x ∷ xs) (suc i) (suc k) y P holds here = set_some xs i k y P holds (λ same. here (ap suc same))

-- What holds at a place holds of the value there.
get_some : {X : Type 0} (xs : List X) (k : ℕ) (x : X) (P : X → Type 0) → IsSomeAnd (slice_get xs k) P → x ≡ get_or xs k x → P x
get_some [] k x P holds is = absurd holds
get_some (y ∷ xs) zero x P holds is = subst (λ z. P z) (sym is) holds
get_some (y ∷ xs) (suc k) x P holds is = get_some xs k x P holds is

-- The one at the place of an alignment is its own.
pub front_at : (subject : Comparison) (pairs : List Pair) (fronts : List Front) (alignment : ℕ) (front : Front)
    → AreFronts subject pairs fronts → IsAlignment alignment → front ≡ get_or fronts (alignment - 1) front
    → IsFront subject pairs alignment front
front_at subject pairs fronts alignment front are named found =
    get_some fronts (alignment - 1) front (IsFront subject pairs alignment) (are alignment named) found

-- They stay one for each alignment where one of them comes to be another of its alignment.
pub fronts_set : (subject : Comparison) (pairs : List Pair) (fronts : List Front) (number : ℕ) (front next : Front)
    → AreFronts subject pairs fronts → IsAlignment number → front ≡ get_or fronts (number - 1) front
    → (IsFront subject pairs number front → IsFront subject pairs number next)
    → AreFronts subject pairs (slice_set fronts (number - 1) next)
fronts_set subject pairs fronts number front next are here found goes_on = λ alignment named.
    set_some fronts (number - 1) (alignment - 1) next (IsFront subject pairs alignment) (are alignment named)
    (λ same. let one : number ≡ alignment = omega (arith, here.least, named.least, same) in
    subst (λ k. IsFront subject pairs k next) one (goes_on (front_at subject pairs fronts number front are here found)))

-- What is kept of all pairs gives the candidates of all of them.
pub mined_of_all : (subject : Comparison) (pairs : List Pair) (alignment : ℕ) (front : Front)
    → IsFront subject pairs alignment front → length pairs ≤ front.count → AreMinedFrom subject alignment pairs (family_of front.live)
mined_of_all subject pairs alignment front is all =
    let live : front.live ≡ with_pairs (nothing_gathered subject alignment) pairs = rw (take_all front.count pairs all) at is.mined in
    rw live (live_candidates_are_mined subject alignment [] pairs)
