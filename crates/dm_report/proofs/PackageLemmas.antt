-- The commands of a package have numbers in a row.
use Rattle.std.proofs.Common.{◌≡◌, ◌+◌, ◌&&◌, ◌||◌, ℕ, false, List, [], ◌∷◌, refl}
use Rattle.std.proofs.Common.{nat_lt, nat_le, arith}
use Rattle.std.proofs.lemmas.Grind.{common_steps}
use Rattle.syncml_parts.specs.Numbering.{ids_in}
use Rattle.dm_job.specs.declared.job.JobEntry.{JobEntry}
use Rattle.dm_job.specs.Sound.{AreNumbered}
use Rattle.dm_service.specs.Service.{Told}
use Rattle.dm_service.specs.Packages.{commands_in, holds_number, forgotten}
use Rattle.dm_report.specs.Known.{is_within, forgotten_within}

nowhere : (first n : ℕ) → false ≡ (nat_le first n && nat_lt n (first + 0))
nowhere first n = grind (arith, common_steps)

-- those of so many numbers, and then those of so many more
in-a-row : (first here more n : ℕ)
    → (nat_le first n && nat_lt n (first + here)) || (nat_le (first + here) n && nat_lt n (first + here + more))
    ≡ (nat_le first n && nat_lt n (first + (here + more)))
in-a-row first here more n = grind (arith, common_steps)

pub holds-within : (first : ℕ) (given : List JobEntry) (n : ℕ) → AreNumbered first given
    → holds_number given n ≡ is_within first (commands_in given) n
holds-within first [] n h = nowhere first n
holds-within first (e ∷ es) n h =
    rw (h.0, holds-within (first + ids_in e.command) es n h.1)
    (in-a-row first (ids_in e.command) (commands_in es) n)

-- so what is forgotten with a package is forgotten by numbers
pub forgotten-within : (first : ℕ) (given : List JobEntry) (n : ℕ) (told : List Told) → AreNumbered first given
    → forgotten given n told ≡ forgotten_within first (commands_in given) n told
forgotten-within first given n [] h = refl
forgotten-within first given n (t ∷ ts) h =
    rw (holds-within first given n h, forgotten-within first given (n + 1) ts h) refl
