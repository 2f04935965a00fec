-- What a lawful setting rules out, and what the card's own checks leave of a sheet's faults.
use Rattle.std.proofs.Common.{◌≡◌, Ok, Err, Result, MatchResult, IsErrAnd, ℕ, List, arith}
use Rattle.card.specs.declared.fault.Layer.TheVariants.{Cabinet}
use Rattle.card.specs.declared.fault.Fault.{Fault}
use Rattle.card.specs.Faults.{fault}
use Rattle.card.specs.Meaning.{Meaning, Sound, Lawful}
use Rattle.card.specs.Placing.{Misset, Placeable, Unplaceable, Checked}
use Rattle.sheets.specs.Checking.{Unfitting, PositionsChecked}

-- no cell of a lawful setting is out of range
pub unlawful : (m : Meaning) (setting : List ℕ) (c : ℕ) → Misset m setting c → Lawful m setting → ⊥
unlawful m setting c mis ok = omega (arith, mis.outside, ok.below c mis.inside)

-- input 0 after no column may be asked of every card
pub of_card : (m : Meaning) → Sound m → (sheet : List ℕ) (e : Fault) → Unplaceable m sheet 0 0 e → (pairs holds : List ℕ) → Unfitting m pairs holds sheet (fault e.cause Cabinet e.place)
of_card m sound sheet e (Unplaceable.wrong_length ne) pairs holds = Unfitting.wrong_length ne
of_card m sound sheet e (Unplaceable.wrong_position size c mis) pairs holds = Unfitting.wrong_position size c mis
of_card m sound sheet e (Unplaceable.no_input w h) pairs holds = absurd (omega (arith, sound.some_lines))
of_card m sound sheet e (Unplaceable.too_far w h k) pairs holds = absurd (omega arith)

-- the card's own answer, its refusal with the check's layer
pub of_checks : (m : Meaning) → Sound m → (sheet : List ℕ) (r s : Result (Unit {0}) Fault) (Says : Fault → Fault → Type 0) → ((e f : Fault) → Says e f → f ≡ fault e.cause Cabinet e.place) → Checked m sheet 0 0 r → MatchResult r (λ x. s ≡ Ok x) (λ e. IsErrAnd s (Says e)) → PositionsChecked m sheet s
of_checks m sound sheet (Ok x) s Says says ok e = rw e ok.lawful
of_checks m sound sheet (Err e) (Ok x) Says says u h = absurd h
of_checks m sound sheet (Err e) (Err f) Says says u h = rw (says e f h) (of_card m sound sheet e u)

-- the column sheet is not refused where it may be asked
pub unrefused : (m : Meaning) (sheet : List ℕ) (i s : ℕ) (e : Fault) → Placeable m sheet i s → Unplaceable m sheet i s e → ⊥
unrefused m sheet i s e ok (Unplaceable.wrong_length ne) = ne ok.lawful.size
unrefused m sheet i s e ok (Unplaceable.wrong_position size c mis) = unlawful m sheet c mis ok.lawful
unrefused m sheet i s e ok (Unplaceable.no_input w h) = omega (arith, ok.input)
unrefused m sheet i s e ok (Unplaceable.too_far w h k) = omega (arith, ok.reached)
