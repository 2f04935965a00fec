-- The cases. Kinds: 1 KLW, 2 BBC, 3 Beneš, 4 baseline, 17 turned KLW.
use Rattle.std.specs.Prelude.{ℕ, List, [], ◌∷◌}
use Rattle.worked.specs.Cases.{Entry, Outcome, first, nothing, Case, entered}

-- input i goes to output o; or cell c is held at position p
infixl 70 ◌to◌
abbrev ◌to◌ : ℕ → ℕ → Entry
a to b = record { at = a; is = b }

-- a case: kind, lines, pairs, holds, outcome
abbrev case : ℕ → ℕ → List ℕ → List Entry → Outcome → Case
case k n pairs holds outcome = record { kind = k; lines = n; pairs = pairs; holds = holds; outcome = outcome }

abbrev pub table : List Case
table =
    case 2 6 (2 ∷ 4 ∷ 1 ∷ 5 ∷ 0 ∷ 3 ∷ []) [] (first (4 ∷ 1 ∷ 0 ∷ 1 ∷ 0 ∷ []))
    ∷ case 1 6 (2 ∷ 4 ∷ 1 ∷ 5 ∷ 0 ∷ 3 ∷ []) [] (first (4 ∷ 1 ∷ 0 ∷ 2 ∷ 1 ∷ []))
    ∷ case 17 6 (2 ∷ 4 ∷ 1 ∷ 5 ∷ 0 ∷ 3 ∷ []) [] (first (4 ∷ 2 ∷ 0 ∷ 1 ∷ 1 ∷ []))
    ∷ case 3 4 (3 ∷ 2 ∷ 1 ∷ 0 ∷ []) [] (first (0 ∷ 0 ∷ 1 ∷ 1 ∷ 1 ∷ 1 ∷ []))
    ∷ case 3 4 (3 ∷ 2 ∷ 1 ∷ 0 ∷ []) (3 to 0 ∷ []) (first (1 ∷ 0 ∷ 1 ∷ 0 ∷ 1 ∷ 1 ∷ []))
    ∷ case 3 4 (3 ∷ 2 ∷ 1 ∷ 0 ∷ []) (3 to 0 ∷ 0 to 0 ∷ []) nothing
    ∷ case 3 4 (0 ∷ 2 ∷ 1 ∷ 3 ∷ []) [] (first (0 ∷ 1 ∷ 0 ∷ 1 ∷ 0 ∷ 1 ∷ []))
    ∷ case 3 4 (0 ∷ 2 ∷ 1 ∷ 3 ∷ []) (4 to 1 ∷ []) (first (1 ∷ 0 ∷ 1 ∷ 0 ∷ 1 ∷ 0 ∷ []))
    ∷ case 3 4 (0 ∷ 2 ∷ 1 ∷ 3 ∷ []) (4 to 1 ∷ 5 to 1 ∷ []) nothing
    ∷ case 4 4 (entered 4 (0 to 0 ∷ 1 to 1 ∷ [])) [] nothing
    ∷ case 4 4 (entered 4 (0 to 0 ∷ 1 to 2 ∷ [])) [] (first (0 ∷ 0 ∷ 0 ∷ 0 ∷ []))
    ∷ case 1 3 (entered 3 (0 to 1 ∷ [])) (0 to 1 ∷ []) (first (1 ∷ 1 ∷ []))
    ∷ case 1 3 (entered 3 (0 to 0 ∷ [])) (0 to 1 ∷ []) nothing
    ∷ []
