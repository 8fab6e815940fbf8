use Rattle.std.proofs.Common.{rules, ◌≡◌, ◌∙◌, sym, ap, subst, true, false, List, [], ◌∷◌, ◌++◌, drop, get_or, set, length, None}
use Rattle.std.specs.Prelude.{position}
use Rattle.std.specs.List.{position_from}
use Rattle.elimination.specs.Combination.{Combination}
use Rattle.elimination.specs.Joining.{is_parallel}
use Rattle.elimination.specs.Indexed.{scanned, has_coefs, place_of, noted, TellsPlaces}
use Rattle.elimination.proofs.Places.{placed_last, placed_instead}
use Rattle.elimination.proofs.Located.{tells_noted, tells_equality, tells_instead, added_inequality}
use Rattle.elimination.proofs.indexed.IndexedRows.add.Goals as goal

pub invariant_of-self-then-is_equality : goal.invariant_of-self-then-is_equality
invariant_of-self-then-is_equality c coefs =
    let rows : List Combination = c.self.inside.rows.items in
    tells_equality c.self.inside.places rows c.args.row c.self.invariant (sym c.is_equality.ensures ∙ c.if-is_equality.true) coefs
    ∙ ap (λ l. position_from (has_coefs coefs) scanned (drop scanned l)) (sym c.in_ok-push.ensures.items)

pub invariant_of-self-in-Continue-branch-4 : goal.invariant_of-self-in-Continue-branch-4
invariant_of-self-in-Continue-branch-4 c coefs =
    let rows : List Combination = c.args.self.now in
    let row : Combination = c.args.row in
    let tells : TellsPlaces c.self.inside.places rows =
    subst (λ (l : List Combination). TellsPlaces c.self.inside.places l) c.self.view_is c.self.invariant in
    let none : None ≡ position (λ earlier. is_parallel earlier row) rows = sym c.in-None.is ∙ c.parallel.ensures in
    let count : c.len.result ≡ length rows = search rules in
    let all : c.push-in-None.new.self.items ≡ rows ++ row ∷ [] = search rules in
    tells_noted c.self.inside.places rows row tells c.note.new.places (sym c.is_equality.ensures ∙ c.if-is_equality.false) none
    (λ other. c.in_ok-note-in-None.ensures.ok other ∙ ap (λ at. noted row.row.coefs at other (place_of other c.self.inside.places)) count) coefs
    ∙ ap (λ l. position_from (has_coefs coefs) scanned (drop scanned l)) (sym all)

pub invariant_of-self-then-is_tighter : goal.invariant_of-self-then-is_tighter
invariant_of-self-then-is_tighter c coefs =
    let rows : List Combination = c.args.self.now in
    let row : Combination = c.args.row in
    let tells : TellsPlaces c.self.inside.places rows =
    subst (λ (l : List Combination). TellsPlaces c.self.inside.places l) c.self.view_is c.self.invariant in
    tells_instead c.self.inside.places rows row tells c.in-Some.at (sym c.is_equality.ensures ∙ c.if-is_equality.false)
    (sym c.in-Some.is ∙ c.parallel.ensures) coefs
    ∙ ap (λ l. position_from (has_coefs coefs) scanned (drop scanned (set l c.in-Some.at row))) (sym c.self.view_is)

pub returns-in_ok-push-in-None : goal.returns-in_ok-push-in-None
returns-in_ok-push-in-None c =
    let rows : List Combination = c.args.self.now in
    let row : Combination = c.args.row in
    let all : c.push-in-None.new.self.items ≡ rows ++ row ∷ [] = search rules in
    all ∙ sym (placed_last rows row c.parallel.result c.parallel.ensures c.in-None.is)
    ∙ added_inequality rows row (sym c.is_equality.ensures ∙ c.if-is_equality.false)

pub returns-then-is_tighter : goal.returns-then-is_tighter
returns-then-is_tighter c =
    let rows : List Combination = c.args.self.now in
    let earlier : Combination = c.index.result.now in
    let there : earlier ≡ get_or rows c.in-Some.at earlier = search rules in
    ap (λ l. set l c.in-Some.at c.args.row) c.self.view_is
    ∙ sym (placed_instead rows c.args.row earlier c.parallel.result c.in-Some.at true c.parallel.ensures c.in-Some.is there
    (sym c.is_tighter.ensures ∙ c.if-is_tighter.true))
    ∙ added_inequality rows c.args.row (sym c.is_equality.ensures ∙ c.if-is_equality.false)

pub returns-else-is_tighter : goal.returns-else-is_tighter
returns-else-is_tighter c =
    let rows : List Combination = c.args.self.now in
    let earlier : Combination = c.index.result.now in
    let there : earlier ≡ get_or rows c.in-Some.at earlier = search rules in
    sym (placed_instead rows c.args.row earlier c.parallel.result c.in-Some.at false c.parallel.ensures c.in-Some.is there
    (sym c.is_tighter.ensures ∙ c.if-is_tighter.false))
    ∙ added_inequality rows c.args.row (sym c.is_equality.ensures ∙ c.if-is_equality.false)
