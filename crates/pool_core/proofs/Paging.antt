-- Pairs in pages of 32.
use Rattle.std.proofs.Common.{◌≡◌, ◌∙◌, ℕ, ◌+◌, ◌*◌, ◌<◌, List, [], ◌∷◌, ◌++◌, length, get_or, zero, suc, refl, ap, sym, arith, append_assoc, length-append}
use Rattle.std.specs.Prelude.{Some, slice_get}
use Rattle.std.specs.List.{All, flat_map}
use Rattle.std.proofs.lemmas.Option.{slice_get_read, get_or_from_slice_get}
use Rattle.std.proofs.lemmas.List.{append-nil, get_or_append_left, get_or-append-add}
use Rattle.std.proofs.lemmas.List.Concat.{flat_map-append}
use Rattle.std.proofs.lemmas.List.Elements.{All-head, All-tail}
use Rattle.pool_core.specs.declared.pages.Added.{Added}

-- The page has 32 pairs.
abbrev pub IsFull : List Added → Type 0
IsFull page = length page ≡ 32

-- The pairs of all pages, one after another.
abbrev pub pairs_in : List (List Added) → List Added
pairs_in pages = flat_map (λ page. page) pages

-- How many these are.
pub length_full : (pages : List (List Added)) → All IsFull pages → length (pairs_in pages) ≡ 32 * length pages
length_full [] full = refl
length_full (page ∷ pages) full =
    omega (arith, length-append page (pairs_in pages), All-head IsFull page pages full, length_full pages (All-tail IsFull page pages full))

-- How many there are with those of the last page.
pub length_paged : (pages : List (List Added)) (last : List Added) → All IsFull pages
    → length (pairs_in pages ++ last) ≡ 32 * length pages + length last
length_paged pages last full = omega (arith, length-append (pairs_in pages) last, length_full pages full)

-- A pair of a full page.
pub in_page : (pages : List (List Added)) (last : List Added) (at i j : ℕ) (page : List Added) (added : Added) → All IsFull pages
    → at ≡ 32 * i + j → i < length pages → j < 32 → get_or (get_or pages i page) j added ≡ get_or (pairs_in pages ++ last) at added
in_page [] last at i j page added full is within short = absurd (omega arith)
in_page (first ∷ pages) last at zero j page added full is within short =
    let size : length first ≡ 32 = All-head IsFull first pages full in
    let here : at ≡ j = omega arith in
    rw (
      here,
      get_or_append_left (first ++ pairs_in pages) last added j (omega (arith, length-append first (pairs_in pages))),
      get_or_append_left first (pairs_in pages) added j (omega arith),
    ) refl
in_page (first ∷ pages) last at (suc i) j page added full is within short =
    let size : length first ≡ 32 = All-head IsFull first pages full in
    let behind : at ≡ length first + (32 * i + j) = omega arith in
    rw (append_assoc first (pairs_in pages) last, behind, get_or-append-add first (pairs_in pages ++ last) (32 * i + j) added)
    (in_page pages last (32 * i + j) i j page added (All-tail IsFull first pages full) refl (omega arith) short)

-- A pair of the last page.
pub in_last : (pages : List (List Added)) (last : List Added) (at j : ℕ) (added : Added) → All IsFull pages
    → at ≡ 32 * length pages + j → get_or last j added ≡ get_or (pairs_in pages ++ last) at added
in_last pages last at j added full is =
    let behind : at ≡ length (pairs_in pages) + j = omega (arith, length_full pages full) in
    rw (behind, get_or-append-add (pairs_in pages) last j added) refl

-- What a page holds is the pair at that place.
pub page_holds : (pages : List (List Added)) (last : List Added) (at i j : ℕ) (page : List Added) (added : Added) → All IsFull pages
    → at ≡ 32 * i + j → i < length pages → j < 32 → page ≡ get_or pages i page → slice_get page j ≡ Some added
    → slice_get (pairs_in pages ++ last) at ≡ Some added
page_holds pages last at i j page added full is within short found holds =
    let below : at < length (pairs_in pages ++ last) =
    omega (arith, length-append (pairs_in pages) last, length_full pages full, is, within, short) in
    let here : added ≡ get_or (get_or pages i page) j added =
    rw (← found) (sym (get_or_from_slice_get page j added added holds)) in
    slice_get_read (pairs_in pages ++ last) _ at added refl below (here ∙ in_page pages last at i j page added full is within short)

-- What the last page holds is, too.
pub last_holds : (pages : List (List Added)) (last : List Added) (at j : ℕ) (added : Added) → All IsFull pages
    → at ≡ 32 * length pages + j → j < length last → added ≡ get_or last j added
    → slice_get (pairs_in pages ++ last) at ≡ Some added
last_holds pages last at j added full is within found =
    let below : at < length (pairs_in pages ++ last) =
    omega (arith, length-append (pairs_in pages) last, length_full pages full, is, within) in
    slice_get_read (pairs_in pages ++ last) _ at added refl below (found ∙ in_last pages last at j added full is)

-- A full page that is not the last one any more has its pairs at the same places.
pub turned : (pages : List (List Added)) (page : List Added) → pairs_in (pages ++ page ∷ []) ++ [] ≡ pairs_in pages ++ page
turned pages page =
    append-nil (pairs_in (pages ++ page ∷ [])) ∙ flat_map-append (λ (each : List Added). each) pages (page ∷ [])
    ∙ ap (λ (behind : List Added). pairs_in pages ++ behind) (append-nil page)
