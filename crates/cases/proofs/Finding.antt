-- The first of some values whose name a text begins with.
use Rattle.std.proofs.Common.{◌≡◌, ℕ, zero, suc, ◌<◌, Bool, true, false, ◌⊎◌, List, [], ◌∷◌, length, get_or, Some, None, Option, MatchOption, ap, sym, ◌∙◌, inl, inr, ⊎_elim, arith}
use Rattle.std.proofs.lemmas.Bool.{cases_Bool}
use Rattle.std.specs.List.{find, Contains}
use Rattle.cases.specs.Names.{begins, Named}

weaker : {A P P' : Type 0} (Q : A → Type 0) (o : Option A) → (P → P') → MatchOption o P Q → MatchOption o P' Q
weaker Q None f h = f h
weaker Q (Some x) f h = h

-- an element is the first one, or one of the rest
either : {A : Type 0} (x : A) (xs : List A) (a : A) (k : ℕ) → k < length (x ∷ xs) → get_or (x ∷ xs) k a ≡ a → (x ≡ a) ⊎ Contains xs a
either x xs a zero h e = inl e
either x xs a (suc k) h e = inr (k, omega (arith, h), e)

first : {A : Type 0} (p : A → Bool) (xs : List A) → MatchOption (find p xs) ((a : A) → Contains xs a → p a ≡ false) (λ a. p a ≡ true)
first p [] = λ a c. absurd (omega (arith, c.1))
first p (x ∷ xs) =
    ⊎_elim
    (λ t. rw t t)
    (λ f. rw f (weaker (λ y. p y ≡ true) (find p xs) (λ none a c. ⊎_elim (λ e. ap p (sym e) ∙ f) (none a) (either x xs a c.0 c.1 c.2)) (first p xs)))
    (cases_Bool (p x))

-- among all the values of a type
pub found : {A : Type 0} (name : A → List ℕ) (text : List ℕ) (all : List A) (r : Option A) → ((a : A) → Contains all a) → r ≡ find (λ a. begins text (name a)) all → Named name text r
found {A = A} name text all r each is =
    let p : A → Bool = λ a. begins text (name a) in
    let none : ((a : A) → Contains all a → p a ≡ false) → (a : A) → p a ≡ false = λ h a. h a (each a) in
    rw is (weaker (λ a. p a ≡ true) (find p all) none (first p all))
