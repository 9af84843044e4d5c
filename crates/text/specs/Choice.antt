-- The bounds that a request can name.
use Rattle.std.specs.Prelude.{◌≡◌, ◌≢◌, ℕ, List, Result, MatchResult, codes}
use Rattle.text.specs.declared.fault.Reason.{Reason}
use Rattle.text.specs.declared.fault.Reason.TheVariants.{Bound}
use Rattle.text.specs.declared.request.BoundChoice.{BoundChoice}
use Rattle.text.specs.declared.request.BoundChoice.TheVariants.{Null, Blocking, LookAhead}

-- the word that names a bound
abbrev pub word_of : BoundChoice → List ℕ
word_of Null = codes "null"
word_of Blocking = codes "blocking"
word_of LookAhead = codes "lookahead"

-- the result is the bound that the text names, or says that it names none
abbrev pub ParsesBound : List ℕ → Result BoundChoice Reason → Type 0
ParsesBound text r =
    MatchResult r (λ bound. text ≡ word_of bound) (λ e. (e ≡ Bound) × ((bound : BoundChoice) → text ≢ word_of bound))
