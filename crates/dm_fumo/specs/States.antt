-- The states of a firmware update (OMA FUMO 1.0), of which a device of this profile takes five.
use Rattle.std.specs.Prelude.{◌≡◌, ◌⊎◌, ◌==◌, ◌||◌, ℕ, Bool, true, if◌then◌else◌, Option, Some, None, IfSome}

-- nothing to update with
abbrev pub idle : ℕ
idle = 10

-- an update package is there
abbrev pub ready : ℕ
ready = 50

-- the update runs
abbrev pub progressing : ℕ
progressing = 60

-- it failed, and the package is still there
abbrev pub failed : ℕ
failed = 70

-- it succeeded, and the package is gone
abbrev pub successful : ℕ
successful = 100

abbrev pub IsUpdateState : ℕ → Type 0
IsUpdateState state = (state ≡ idle) ⊎ ((state ≡ ready) ⊎ ((state ≡ progressing) ⊎ ((state ≡ failed) ⊎ (state ≡ successful))))

-- what a write of the package leads to, by whether the new value is empty; none while the update runs
abbrev pub after_write : ℕ → Bool → Option ℕ
after_write state empty = if state == progressing then None else Some (if empty then idle else ready)

-- an update may be started where a package is there
abbrev pub may_exec : ℕ → Bool
may_exec state = state == ready || state == failed

-- what the result leads to
abbrev pub after_result : Bool → ℕ
after_result ok = if ok then successful else failed

-- the code that the server is told: successful, or failed while updating
abbrev pub result_code : Bool → ℕ
result_code ok = if ok then 200 else 410

-- each state leads to one of the five, and an update that may be started isn't one that runs
pub record StatesStay : Type 0 where
  pub write : (state : ℕ) (empty : Bool) → IfSome (after_write state empty) IsUpdateState
  pub exec : IsUpdateState progressing
  pub result : (ok : Bool) → IsUpdateState (after_result ok)
  pub once : (state : ℕ) → may_exec state ≡ true → state ≡ progressing → ⊥
