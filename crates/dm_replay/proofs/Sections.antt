-- A line moves the start section on, ends it, or is refused.
use Rattle.std.proofs.Common.{◌≡◌, ◌+◌, ℕ, true, false, if◌then◌else◌, List, Option, Some, None, Ok, refl, sym, ap}
use Rattle.std.proofs.Common.{◌∙◌}
use Rattle.std.specs.declared.result.Result.{Result}
use Rattle.dm_base.specs.declared.lines.LineReason.{LineReason}
use Rattle.dm_base.specs.declared.lines.LineReason.TheVariants as reason
use Rattle.dm_start.specs.declared.heads.Head.TheVariants.{First}
use Rattle.dm_start.specs.declared.telling.Phase.TheVariants as phase
use Rattle.dm_start.specs.Start.{Setup, Section, opening, telling, after_line, is_begun, ReadsSection}
use Rattle.dm_replay.specs.Input.{Input}
use Rattle.dm_replay.specs.Trace.{bad, began, unbegun, is_long, start_line, behind_begin, told_in}
use Rattle.dm_replay.specs.From.{Between, BeginsWithLine, with_front, begun_at}

-- the step of a line that isn't too long
stepped : (n : ℕ) (s : Section) (line : List ℕ) (j : Input) → is_long line ≡ false
    → begun_at n s (with_front line j) ≡ start_line n (after_line s line) j (λ p. begun_at (n + 1) p j)
stepped n s line j short =
    ap (λ c. if c then unbegun (bad n reason.Long) else start_line n (after_line s line) j (λ p. begun_at (n + 1) p j))
    short

not_told : (s : Section) → is_begun s ≡ false → told_in s ≡ None
not_told (opening h) e = refl
not_told (telling phase.Accounts told) e = refl
not_told (telling phase.Nodes told) e = refl
not_told (telling phase.Begun told) e = cc

behind_line : (n : ℕ) (s next : Section) (line : List ℕ) (j : Input) → is_long line ≡ false
    → after_line s line ≡ Ok next → is_begun next ≡ false
    → begun_at n s (with_front line j) ≡ begun_at (n + 1) next j
behind_line n s next line j short is more =
    stepped n s line j short ∙ ap (λ (r : Result Section LineReason). start_line n r j (λ p. begun_at (n + 1) p j)) is
    ∙ goes (told_in next) (not_told next more)
  where
    goes : (o : Option Setup) → o ≡ None → behind_begin n o j (begun_at (n + 1) next j) ≡ begun_at (n + 1) next j
    goes None e = refl
    goes (Some told) e = cc

behind_last : (n : ℕ) (s next : Section) (told : Setup) (line : List ℕ) (j : Input) → is_long line ≡ false
    → after_line s line ≡ Ok next
    → next ≡ telling phase.Begun told → begun_at n s (with_front line j) ≡ began (n + 1) told j
behind_last n s next told line j short is last =
    stepped n s line j short ∙ ap (λ (r : Result Section LineReason). start_line n r j (λ p. begun_at (n + 1) p j))
    (is ∙ ap Ok last)

pub section_more : (a b c : Option Input) (n : ℕ) (at next : Section) (line looked : List ℕ) → looked ≡ line
    → ReadsSection (after_line at looked) at next (Ok false)
    → Between a b (λ i j. begun_at 1 (opening First) i ≡ begun_at n at j) → Between b c (λ i j. BeginsWithLine line i j)
    → Between a c (λ i j. begun_at 1 (opening First) i ≡ begun_at (n + 1) next j)
section_more None b c n at next line looked is read before leads = tt
section_more (Some i) None c n at next line looked is read before leads = absurd before
section_more (Some i) (Some j) None n at next line looked is read before leads = absurd leads
section_more (Some i) (Some j) (Some k) n at next line looked is read before leads =
    before ∙ ap (begun_at n at) leads.0 ∙ behind_line n at next line k leads.1 (ap (after_line at) (sym is) ∙ read.0)
    (sym read.1)

pub section_whole : (a b c : Option Input) (n : ℕ) (at next : Section) (told : Setup) (line looked : List ℕ)
    → looked ≡ line
    → ReadsSection (after_line at looked) at next (Ok true) → next ≡ telling phase.Begun told
    → Between a b (λ i j. begun_at 1 (opening First) i ≡ begun_at n at j) → Between b c (λ i j. BeginsWithLine line i j)
    → Between a c (λ i j. begun_at 1 (opening First) i ≡ began (n + 1) told j)
section_whole None b c n at next told line looked is read last before leads = tt
section_whole (Some i) None c n at next told line looked is read last before leads = absurd before
section_whole (Some i) (Some j) None n at next told line looked is read last before leads = absurd leads
section_whole (Some i) (Some j) (Some k) n at next told line looked is read last before leads =
    before ∙ ap (begun_at n at) leads.0 ∙ behind_last n at next told line k leads.1
    (ap (after_line at) (sym is) ∙ read.0) last
