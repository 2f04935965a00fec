-- The two families keep the law of leaders, and so their cards the rules of every card.
use Rattle.std.proofs.Common.{ℕ, ◌-◌, ◌≤◌, arith, rules}
use Rattle.card.specs.Meaning.{Sound}
use Rattle.column.specs.Families.{klw, bbc}
use Rattle.column.specs.Leading.{Leading}
use Rattle.column.specs.Passing.{column_card}
use Rattle.column.specs.Soundness.{card_sound}

klw_leading : Leading klw
klw_leading = search rules

bbc_leading : Leading bbc
bbc_leading = search rules

pub klw_sound : (n : ℕ) → 2 ≤ n → n ≤ 8 → Sound (column_card klw (n - 1))
klw_sound n some few = card_sound klw klw_leading (n - 1) (omega arith) (omega arith)

pub bbc_sound : (n : ℕ) → 2 ≤ n → n ≤ 8 → Sound (column_card bbc (n - 1))
bbc_sound n some few = card_sound bbc bbc_leading (n - 1) (omega arith) (omega arith)
