-- What a call comes back with, and what the slice that it was lent then holds: the one shape of every promise of this library.
-- From document 01, "Numbers a call can come back with" and "How much a contract has to say". Assumes nothing.
use Rattle.std.specs.Prelude.{◌≡◌, Bool, true, false, List, ℕ, zero, suc}
use Rattle.std.proofs.Common.{sym, ap, ◌∙◌}
use Rattle.units.specs.declared.Place.{Place}
use Rattle.units.specs.declared.Place.TheVariants.{Nowhere}
use Rattle.units.specs.declared.why.Why.{Why}

-- a refusal by a number that names nothing, and 0, which refuses nothing
abbrev pub plain : ℕ → Why
plain n = record { number = n; slot = record { 0 = 0 }; place = Nowhere }

abbrev pub fine : Why
fine = plain 0

-- with the slot that it names
abbrev pub of_slot : ℕ → ℕ → Why
of_slot n s = record { number = n; slot = record { 0 = s }; place = Nowhere }

-- with the place that it names
abbrev pub placed : ℕ → Place → Why
placed n p = record { number = n; slot = record { 0 = 0 }; place = p }

-- accepted with a value, which is document 01's number 0, or refused with no value
pub data Answer (A : Type 0) : Type 0 where
  accepted : A → Answer A
  refused : Why → Answer A

-- document 01's number of an answer: 0 where it accepts
abbrev pub number_of : {A : Type 0} → Answer A → ℕ
number_of (accepted x) = 0
number_of (refused w) = w.number

-- refused by a number that names nothing
abbrev pub refuse : {A : Type 0} → ℕ → Answer A
refuse n = refused (plain n)

-- the first where the test holds, else the second: checks in their order
abbrev pub pick {ℓ} : {X : Type ℓ} → Bool → X → X → X
pick true a b = a
pick false a b = b

-- go on with an accepted value; a refusal stays
abbrev pub and_then : {A B : Type 0} → Answer A → (A → Answer B) → Answer B
and_then (accepted x) f = f x
and_then (refused w) f = refused w

-- what an answer's struct says where its value cannot stand in an enum: the verdict, and a value beside it
pub record Beside (A : Type 0) : Type 0 where
  pub verdict : Answer Unit
  pub value : A

-- an answer so told: beside a refusal stands a fixed value
unfoldable pub beside : {A : Type 0} → A → Answer A → Beside A
beside other (accepted x) = record { verdict = accepted tt; value = x }
beside other (refused w) = record { verdict = refused w; value = other }

-- one check: its refusal where the test says so
abbrev pub when : Bool → Why → Why
when true w = w
when false w = fine

-- by a number: the first where it is 0, else the second
abbrev pub if_zero {ℓ} : {X : Type ℓ} → ℕ → X → X → X
if_zero zero a b = a
if_zero (suc k) a b = b

-- the same refusal, found at a place; where nothing refuses, none is named
unfoldable pub within : Place → Why → Why
within p w = if_zero w.number fine (record { number = w.number; slot = w.slot; place = p })

-- what a reader sees who drops the place
abbrev pub dropped : Why → Why
dropped w = record { number = w.number; slot = w.slot; place = Nowhere }

-- the first check's refusal, else the second's
unfoldable pub or_else : Why → Why → Why
or_else a b = if_zero a.number b a

-- what a refusal found, or none, makes of a call that would answer v
unfoldable pub judged : {A : Type 0} → Why → A → Answer A
judged w v = if_zero w.number (accepted v) (refused w)

-- an answer, and what the lent slice holds at the end
pub record Outcome (A : Type 0) : Type 0 where
  pub answer : A
  pub image : List ℕ

abbrev pub gives : {A : Type 0} → A → List ℕ → Outcome A
gives r i = record { answer = r; image = i }

-- where nothing refuses the slice is the new one, else the old one
unfoldable pub settle : {A : Type 0} → Why → A → List ℕ → List ℕ → Outcome (Answer A)
settle w v old new = gives (judged w v) (if_zero w.number new old)

-- a call ends in an outcome: its answer and the slice at exit are those of the outcome, which is a function of what it was given
pub record Ends {A : Type 0} (o : Outcome A) (r : A) (img : List ℕ) : Type 0 where
  pub answer : r ≡ o.answer
  pub image : img ≡ o.image

-- the outcome known by an equation
pub ends : {A : Type 0} {o : Outcome A} {r : A} {i : List ℕ} → o ≡ gives r i → Ends o r i
ends e = record { answer = sym (ap (λ o. o.answer) e); image = sym (ap (λ o. o.image) e) }

-- whatever the call, its promise allows one answer and one content
pub unique : {A : Type 0} {o : Outcome A} {r s : A} {i j : List ℕ} → Ends o r i → Ends o s j → (r ≡ s) × (i ≡ j)
unique p q = (p.answer ∙ sym q.answer, p.image ∙ sym q.image)
