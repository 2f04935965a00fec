-- What a card of switch cells means.
use Rattle.std.specs.Prelude.{◌≡◌, ℕ, ◌<◌, ◌≤◌, List, length, slice_index}

-- the counts of a card, how many positions each cell has, and its place rule: under a setting, where the line of an input stands after some columns
pub record Meaning : Type 0 where
  pub lines : ℕ
  pub cells : ℕ
  pub columns : ℕ
  pub positions : ℕ → ℕ
  pub place : List ℕ → ℕ → ℕ → ℕ

-- a setting has one position for each cell, each below its cell's count
pub record Lawful (m : Meaning) (setting : List ℕ) : Type 0 where
  pub size : length setting ≡ m.cells
  pub below : (c : ℕ) → c < m.cells → slice_index setting c < m.positions c

-- the rules that every card keeps: its counts lie in range; under a lawful setting each line starts at its input, stands within the lines, and no two lines stand at one place
pub record Sound (m : Meaning) : Type 0 where
  pub some_lines : 2 ≤ m.lines
  pub few_lines : m.lines ≤ 16
  pub some_cells : 1 ≤ m.cells
  pub few_cells : m.cells ≤ 64
  pub some_columns : 1 ≤ m.columns
  pub few_columns : m.columns ≤ 16
  pub some_positions : (c : ℕ) → c < m.cells → 2 ≤ m.positions c
  pub few_positions : (c : ℕ) → c < m.cells → m.positions c ≤ 16
  pub start : (l : List ℕ) → Lawful m l → (i : ℕ) → i < m.lines → m.place l i 0 ≡ i
  pub within : (l : List ℕ) → Lawful m l → (i s : ℕ) → i < m.lines → s ≤ m.columns → m.place l i s < m.lines
  pub apart : (l : List ℕ) → Lawful m l → (i j s : ℕ) → i < m.lines → j < m.lines → s ≤ m.columns → m.place l i s ≡ m.place l j s → i ≡ j

-- two cards mean the same: the counts agree, and so do the places under every lawful setting
pub record Same (m n : Meaning) : Type 0 where
  pub lines : m.lines ≡ n.lines
  pub cells : m.cells ≡ n.cells
  pub columns : m.columns ≡ n.columns
  pub positions : (c : ℕ) → c < m.cells → m.positions c ≡ n.positions c
  pub places : (l : List ℕ) → Lawful m l → (i s : ℕ) → i < m.lines → s ≤ m.columns → m.place l i s ≡ n.place l i s
