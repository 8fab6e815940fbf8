use Rattle.std.proofs.Common.{◌∙◌, sym, ap, subst, List}
use Rattle.std.specs.Prelude.{position}
use Rattle.elimination.specs.Combination.{Combination}
use Rattle.elimination.specs.Joining.{is_parallel}
use Rattle.elimination.specs.Indexed.{TellsPlaces}
use Rattle.elimination.proofs.Located.{found_in_front, found_behind}
use Rattle.elimination.proofs.indexed.IndexedRows.parallel.Goals as goal

pub returns-in-Some : goal.returns-in-Some
returns-in-Some c =
    let row : Combination = c.args.row.now in
    found_in_front c.args.self.now row c.in-Some.at
    (sym c.in-Some.is ∙ c.parallel_in.ensures ∙ ap (position (λ earlier. is_parallel earlier row)) c.front.ensures)

pub returns-in-None : goal.returns-in-None
returns-in-None c =
    let rows : List Combination = c.args.self.now in
    let row : Combination = c.args.row.now in
    let tells : TellsPlaces c.self.inside.places rows =
    subst (λ (l : List Combination). TellsPlaces c.self.inside.places l) c.self.view_is c.self.invariant in
    c.noted_place.ensures ∙ found_behind c.self.inside.places rows row tells
    (sym c.in-None.is ∙ c.parallel_in.ensures ∙ ap (position (λ earlier. is_parallel earlier row)) c.front.ensures)
