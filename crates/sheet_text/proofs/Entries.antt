-- Words that begin with a name, a number or an entry.
use Rattle.std.proofs.Common.{◌≡◌, ℕ, List, [], ◌∷◌, ◌++◌, sym, refl, subst}
use Rattle.sheet_text.specs.Lists.{Word, Entry, Entering, Entered, Unentered}

pub heads : {ws : List Word} {a b : Word} {x y : List Word} → ws ≡ a ∷ x → ws ≡ b ∷ y → a ≡ b
heads p q = cc

pub tails : {ws : List Word} {a b : Word} {x y : List Word} → ws ≡ a ∷ x → ws ≡ b ∷ y → x ≡ y
tails p q = cc

pub no_entry : {ws : List Word} {a : Word} {x : List Word} → ws ≡ a ∷ x → ((v : ℕ) → Entry a v → ⊥) → Unentered ws
no_entry e none v rest en = none v (subst (λ (w : Word). Entry w v) (heads en.are e) en.entry)

-- one entry more
pub entered_more : (ws : List Word) (vs : List ℕ) (us : List Word) (v : ℕ) (rest : List Word) → Entered ws vs us → Entering us v rest → Entered ws (vs ++ (v ∷ [])) rest
entered_more ws [] us v rest e en = (rest, subst (λ (x : List Word). Entering x v rest) (sym e) en, refl)
entered_more ws (u ∷ vs) us v rest e en = (e.0, e.1, entered_more e.0 vs us v rest e.2 en)
