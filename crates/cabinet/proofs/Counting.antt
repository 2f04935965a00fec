-- From what a card settles in the part of a buffer that it has cells for, to what then stands in the cabinet.
use Rattle.std.proofs.Common.{◌≡◌, ℕ, ◌≤◌, List, ◌++◌, length, take, ◌∙◌, arith}
use Rattle.std.proofs.lemmas.List.{take_at, length-take-le}
use Rattle.card.specs.Meaning.{Meaning}
use Rattle.cabinet.specs.declared.State.{State}

module _ (m : Meaning) (s : State) (k : ℕ) (size : k ≡ m.cells) (wide : length s.setting ≡ 64) (few : m.cells ≤ 64) where
  -- the cells of a setting laid over the front of the table
  pub settled_size : (new rest : List ℕ) → length new ≡ length (take k s.setting) → length (take k (new ++ rest)) ≡ k
  settled_size new rest long =
      let lk : length (take k s.setting) ≡ k = length-take-le k s.setting (omega arith) in
      rw (take_at new rest k (long ∙ lk)) (long ∙ lk)
