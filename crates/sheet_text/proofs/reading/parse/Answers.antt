use Rattle.std.proofs.Common.{◌≡◌, List, [], codes, subst}
use Rattle.std.proofs.lemmas.Option.{MatchOption-at_none, MatchOption-at_some}
use Rattle.words.specs.Words.{words_of}
use Rattle.sheet_text.specs.Lists.{Word, values}
use Rattle.sheet_text.specs.Requests.{Reading, ListRead}
use Rattle.sheet_text.proofs.OneReading.{the_reading, card_read, missing}
use Rattle.sheet_text.proofs.reading.parse.Goals as goal

pub returns-in_err-kind : goal.returns-in_err-kind
returns-in_err-kind c =
    missing _ c.in_err-kind.ensures.ok_part c.in_err-kind.ensures.value c.from_residual.ensures.1
    (Reading.no_kind (MatchOption-at_none _ _ c.in_err-kind.ensures.ok_part c.keyed.ensures))

pub returns-in_err-lines : goal.returns-in_err-lines
returns-in_err-lines c =
    missing _ c.in_err-lines.ensures.ok_part c.in_err-lines.ensures.value c.from_residual-in_err-lines.ensures.1
    (Reading.no_lines _ _ (MatchOption-at_some _ _ _ c.in_ok-kind.ensures.ok_part c.keyed.ensures) (MatchOption-at_none _ _ c.in_err-lines.ensures.ok_part c.keyed-2.ensures))

pub returns-in_err-plan : goal.returns-in_err-plan
returns-in_err-plan c =
    missing _ c.in_err-plan.ensures.ok_part c.in_err-plan.ensures.value c.from_residual-in_err-plan.ensures.1
    (Reading.no_plan _ _ _ (card_read (MatchOption-at_some _ _ _ c.in_ok-kind.ensures.ok_part c.keyed.ensures) (MatchOption-at_some _ _ _ c.in_ok-lines.ensures.ok_part c.keyed-2.ensures)) (MatchOption-at_none _ _ c.in_err-plan.ensures.ok_part c.list_after.ensures))

pub returns-in_err-holds : goal.returns-in_err-holds
returns-in_err-holds c =
    missing _ c.in_err-holds.ensures.ok_part c.in_err-holds.ensures.value c.from_residual-in_err-holds.ensures.1
    (Reading.no_holds _ _ _ _ _ (card_read (MatchOption-at_some _ _ _ c.in_ok-kind.ensures.ok_part c.keyed.ensures) (MatchOption-at_some _ _ _ c.in_ok-lines.ensures.ok_part c.keyed-2.ensures)) (MatchOption-at_some _ _ _ c.in_ok-plan.ensures.ok_part c.list_after.ensures) (MatchOption-at_none _ _ c.in_err-holds.ensures.ok_part c.list_after-2.ensures))

pub returns-in_err-sheet : goal.returns-in_err-sheet
returns-in_err-sheet c =
    missing _ c.in_err-sheet.ensures.ok_part c.in_err-sheet.ensures.value c.from_residual-in_err-sheet.ensures.1
    (Reading.no_sheet _ _ _ _ _ _ _ (card_read (MatchOption-at_some _ _ _ c.in_ok-kind.ensures.ok_part c.keyed.ensures) (MatchOption-at_some _ _ _ c.in_ok-lines.ensures.ok_part c.keyed-2.ensures)) (MatchOption-at_some _ _ _ c.in_ok-plan.ensures.ok_part c.list_after.ensures) (MatchOption-at_some _ _ _ c.in_ok-holds.ensures.ok_part c.list_after-2.ensures) (MatchOption-at_none _ _ c.in_err-sheet.ensures.ok_part c.list_after-3.ensures))

pub returns-in-Some : goal.returns-in-Some
returns-in-Some c =
    the_reading _ _ (Reading.no_end _ _ _ _ _ _ _ _ _ (card_read (MatchOption-at_some _ _ _ c.in_ok-kind.ensures.ok_part c.keyed.ensures) (MatchOption-at_some _ _ _ c.in_ok-lines.ensures.ok_part c.keyed-2.ensures)) (MatchOption-at_some _ _ _ c.in_ok-plan.ensures.ok_part c.list_after.ensures) (MatchOption-at_some _ _ _ c.in_ok-holds.ensures.ok_part c.list_after-2.ensures) (MatchOption-at_some _ _ _ c.in_ok-sheet.ensures.ok_part c.list_after-3.ensures) (λ none. cc (none, c.in-Some.ensures.words)))

pub returns-in-None : goal.returns-in-None
returns-in-None c =
    let last : words_of c.in_ok-sheet.text.now ≡ [] = c.in-None.ensures in
    the_reading _ _
    (Reading.read _ _ _ _ (card_read (MatchOption-at_some _ _ _ c.in_ok-kind.ensures.ok_part c.keyed.ensures) (MatchOption-at_some _ _ _ c.in_ok-lines.ensures.ok_part c.keyed-2.ensures)) (MatchOption-at_some _ _ _ c.in_ok-plan.ensures.ok_part c.list_after.ensures) (MatchOption-at_some _ _ _ c.in_ok-holds.ensures.ok_part c.list_after-2.ensures) (subst (λ (rest : List Word). ListRead (words_of c.in_ok-holds.text.now) (codes "sheet") (values c.in_ok-sheet.sheet) rest) last (MatchOption-at_some _ _ _ c.in_ok-sheet.ensures.ok_part c.list_after-3.ensures)))
