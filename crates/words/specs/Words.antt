-- The words of a text.
use Rattle.std.specs.Prelude.{not, ◌&&◌, ◌≡◌, ℕ, ◌<◌, ◌≤◌, Bool, cond, List, [], ◌∷◌, ◌++◌, length, ◌==◌, ◌≢◌, nat_le}

-- a byte that stands between words: the space, the end of a line, and every other byte up to the space
abbrev pub blank : ℕ → Bool
blank b = nat_le b 32

-- a byte that stands in a word: no blank, and not '#'
abbrev pub Wordy : ℕ → Type 0
Wordy b = (32 < b) × (b ≢ 35)

-- whether it does
abbrev pub wordy : ℕ → Bool
wordy b = not (blank b) && not (b == 35)

-- a text without its comments; within a comment all is left out up to the end of its line
unfoldable pub kept : Bool → List ℕ → List ℕ
kept Bool.false [] = []
kept Bool.true [] = []
kept Bool.false (b ∷ bs) = cond (b == 35) (kept Bool.true bs) (b ∷ kept Bool.false bs)
kept Bool.true (b ∷ bs) = cond (b == 10) (b ∷ kept Bool.false bs) (kept Bool.true bs)

abbrev pub uncommented : List ℕ → List ℕ
uncommented bs = kept Bool.false bs

abbrev pub comment_rest : List ℕ → List ℕ
comment_rest bs = kept Bool.true bs

-- one byte more at the front of the first word
abbrev pub grown : ℕ → List (List ℕ) → List (List ℕ)
grown b [] = (b ∷ []) ∷ []
grown b (w ∷ ws) = (b ∷ w) ∷ ws

-- a byte that is no blank, before bytes with these words: it is a word of its own where a blank follows, else part of the first word
abbrev pub begun : ℕ → List ℕ → List (List ℕ) → List (List ℕ)
begun b [] ws = (b ∷ []) ∷ ws
begun b (c ∷ bs) ws = cond (blank c) ((b ∷ []) ∷ ws) (grown b ws)

-- the runs of bytes that are no blanks
unfoldable pub runs : List ℕ → List (List ℕ)
runs [] = []
runs (b ∷ bs) = cond (blank b) (runs bs) (begun b bs (runs bs))

-- the words of a text
abbrev pub words_of : List ℕ → List (List ℕ)
words_of text = runs (uncommented text)

-- one text is the end of another
abbrev pub End : List ℕ → List ℕ → Type 0
End text rest = (front : List ℕ) × (text ≡ front ++ rest)

-- the text begins with a byte of a word, or is empty
abbrev pub Started : List ℕ → Type 0
Started [] = Unit {0}
Started (b ∷ bs) = Wordy b

-- the first word of a text, with what stands before it and after it
pub record First (text word rest : List ℕ) : Type 0 where
  pub gap : List ℕ
  pub stands : text ≡ gap ++ word ++ rest
  pub some : 1 ≤ length word
  pub words : words_of text ≡ word ∷ words_of rest
