-- What the builder answers.
use Rattle.std.specs.Prelude.{◌≡◌, ℕ, Ok, Err, Result}
use Rattle.card.specs.declared.fault.Cause.TheVariants.{UnknownCard}
use Rattle.card.specs.declared.fault.Layer.TheVariants.{Card}
use Rattle.card.specs.declared.fault.Fault.{Fault}
use Rattle.card.specs.Faults.{fault}
use Rattle.card.specs.Meaning.{Meaning}
use Rattle.kinds.specs.declared.plain.Plain.{Plain}
use Rattle.kinds.specs.declared.built.Built as declared
use Rattle.kinds.specs.Kinds.{PlainKind, Kind, plain_meaning, built_meaning}

-- a card of the kind's meaning, or that the kind with this count is unknown
abbrev pub BuiltPlain : ℕ → ℕ → Result Plain Fault → Type 0
BuiltPlain k n (Ok c) = PlainKind k n (plain_meaning c)
BuiltPlain k n (Err e) = ((m : Meaning) → PlainKind k n m → ⊥) × (e ≡ fault UnknownCard Card n)

abbrev pub Built : ℕ → ℕ → Result declared.Built Fault → Type 0
Built k n (Ok c) = Kind k n (built_meaning c)
Built k n (Err e) = ((m : Meaning) → Kind k n m → ⊥) × (e ≡ fault UnknownCard Card n)
