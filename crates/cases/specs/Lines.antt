-- The parts of a case.
use Rattle.std.specs.Prelude.{ℕ, List, [], map, slice_index_or}
use Rattle.cases.specs.declared.line.Case.{Case}

-- the numbers of a part, or none past the last
abbrev pub part_of : Case → ℕ → List ℕ
part_of c i = slice_index_or (map (λ v. v.items) c.parts.items) i []
