-- What is kept from line to line of a start section.
use Rattle.std.proofs.Common.{◌≡◌, ℕ, Bool, true, false, cond, List, [], ◌∷◌, ◌++◌, Option, None, Some, Ok, Err, refl}
use Rattle.std.proofs.Common.{sym, ◌∙◌, ap, subst, inl, inr}
use Rattle.std.specs.Prelude.{◌&&◌, ◌||◌, ◌==◌, ◌⊎◌, Result, bytes_eq, IfSome, IfOk, IfErr, OnOk, OnErr, codes}
use Rattle.std.specs.List.{AllByRecursion}
use Rattle.dm_base.specs.Fields.{parts, is_short, is_id, num_of}
use Rattle.dm_base.specs.declared.values.Limits.{Limits}
use Rattle.dm_base.specs.declared.lines.LineReason.{LineReason}
use Rattle.dm_base.specs.declared.lines.LineReason.TheVariants as reason
use Rattle.dm_auth.specs.declared.accounts.Account.{Account}
use Rattle.dm_tree.specs.Nodes.{first_stamp}
use Rattle.dm_fields.specs.declared.errors.LineError.{LineError}
use Rattle.dm_start.specs.declared.heads.DeviceInfo.{DeviceInfo}
use Rattle.dm_start.specs.declared.heads.Head.{Head}
use Rattle.dm_start.specs.declared.heads.Head.TheVariants as head
use Rattle.dm_start.specs.Fields.{device_in, clock_in}
use Rattle.dm_fields.specs.Fields.{begins_with, limits_in}
use Rattle.dm_start.specs.Start.{Section, opening, version_in, accounts_next, behind_limits, after_opening, after_line}
use Rattle.dm_start.specs.Start.{is_begun, is_known, ReadsSection}
use Rattle.dm_fields.specs.Refusing.{Refuses}
use Rattle.dm_fields.proofs.Told.{said, allowed, same_ok, some_if}
use Rattle.dm_start.specs.Laws.{AreApart}
use Rattle.dm_start.specs.Soundness.{IsShortDevice}

-- ---- the first lines

pub is_version : (line : List ℕ) (v : ℕ) → version_in line ≡ Some v → (v ≡ 1) ⊎ (v ≡ 2)
is_version line v e = by_first (bytes_eq line (codes "dm-trace 1")) (bytes_eq line (codes "dm-trace 2")) e
  where
    by_first : (a b : Bool) → cond a (Some 1) (cond b (Some 2) None) ≡ Some v → (v ≡ 1) ⊎ (v ≡ 2)
    by_first true b h = inl (cc)
    by_first false true h = inr (cc)
    by_first false false h = absurd (cc)

five : (a b c d e : Bool) → (a && b && c && d && e) ≡ true
    → (a ≡ true) × (b ≡ true) × (c ≡ true) × (d ≡ true) × (e ≡ true)
five true true true true true h = (refl, refl, refl, refl, refl)
five false b c d e h = absurd (first b c d e h)
  where
    first : (b c d e : Bool) → (false && b && c && d && e) ≡ true → ⊥
    first b c d e h = cc
five true false c d e h = absurd (cc)
five true true false d e h = absurd (cc)
five true true true false e h = absurd (cc)
five true true true true false h = absurd (cc)

pub is_short_device : (fields : List (List ℕ)) (d : DeviceInfo) → device_in fields ≡ Some d → IsShortDevice d
is_short_device [] d e = absurd (cc)
is_short_device (w ∷ []) d e = absurd (cc)
is_short_device (w ∷ a ∷ []) d e = absurd (cc)
is_short_device (w ∷ a ∷ b ∷ []) d e = absurd (cc)
is_short_device (w ∷ a ∷ b ∷ c ∷ []) d e = absurd (cc)
is_short_device (w ∷ a ∷ b ∷ c ∷ g ∷ []) d e = absurd (cc)
is_short_device (w ∷ a ∷ b ∷ c ∷ g ∷ h ∷ []) d e =
    let told = some_if _ (Some (record { dev_id = a; man = b; model = c; dm_v = g; lang = h })) d e in
    let all = five (is_short a) (is_short b) (is_short c) (is_short g) (is_short h) told.0 in
    let same : record { dev_id = a; man = b; model = c; dm_v = g; lang = h } ≡ d = some_device _ d told.1 in
    subst IsShortDevice same (record { dev_id = all.0; man = all.1; model = all.2; dm_v = all.3; lang = all.4 })
  where
    some_device : (x y : DeviceInfo) → Some x ≡ Some y → x ≡ y
    some_device x y q = cc
is_short_device (w ∷ a ∷ b ∷ c ∷ g ∷ h ∷ i ∷ rest) d e = absurd (cc)

-- ---- accounts

pub all_push : (P : Account → Type 0) (as' : List Account) (b : Account) → AllByRecursion P as' → P b
    → AllByRecursion P (as' ++ b ∷ [])
all_push P [] b all h = (h, tt)
all_push P (a ∷ rest) b all h = (all.0, all_push P rest b all.1 h)

neither : (a b : Bool) → (a || b) ≡ false → (a ≡ false) × (b ≡ false)
neither false false h = (refl, refl)
neither false true h = absurd (cc)
neither true b h = absurd (cc)

pub apart_push : (accounts : List Account) (b : Account) → AreApart accounts → is_known accounts b.server ≡ false
    → AreApart (accounts ++ b ∷ [])
apart_push [] b apart unknown = (tt, tt)
apart_push (a ∷ rest) b apart unknown =
    let both = neither (bytes_eq a.server b.server) (is_known rest b.server) unknown in (
      all_push
          (λ (c : Account). bytes_eq a.server c.server ≡ false) rest b apart.0 both.0,
      apart_push rest b apart.1 both.1,
    )

-- ---- the first lines don't end a section

behind_goes_on : (version : ℕ) (d : DeviceInfo) (l : Limits) → is_begun (behind_limits version d l) ≡ false
behind_goes_on version d l = by_version (version == 2)
  where
    by_version : (b : Bool) → is_begun (cond b (opening (head.Clock d l)) (accounts_next version d l first_stamp)) ≡ false
    by_version true = refl
    by_version false = refl

pub opening_goes_on : (h : Head) (line : List ℕ) (t : Section) → after_opening h line ≡ Ok t → is_begun t ≡ false
opening_goes_on head.First line t e =
    let s = said reason.Word (version_in line) (λ v. Ok (opening (head.Device v))) t e in
    ap is_begun (sym (same_ok _ t s.rest))
opening_goes_on (head.Device v) line t e =
    let word = allowed (begins_with (codes "device") line) _ reason.Word t e in
    let s = said reason.Fields (device_in (parts line)) (λ d. Ok (opening (head.Limits v d))) t word.1 in
    ap is_begun (sym (same_ok _ t s.rest))
opening_goes_on (head.Limits v d) line t e =
    let word = allowed (begins_with (codes "limits") line) _ reason.Word t e in
    let s = said reason.Fields (limits_in (parts line)) (λ l. Ok (behind_limits v d l)) t word.1 in
    ap is_begun (sym (same_ok _ t s.rest)) ∙ behind_goes_on v d s.value
opening_goes_on (head.Clock d l) line t e =
    let word = allowed (begins_with (codes "clock") line) _ reason.Word t e in
    let s = said reason.Fields (clock_in (parts line)) (λ clock. Ok (accounts_next 2 d l clock)) t word.1 in
    ap is_begun (sym (same_ok _ t s.rest))

pub opening_line : (h : Head) (line : List ℕ) → after_line (opening h) line ≡ after_opening h line
unfolding after_line
opening_line h line = refl

-- ---- what a line is answered

module _ (read : Result Section LineReason) (old new : Section) where
  pub when_read : (r : Result Bool LineError) → ReadsSection read old new r → OnOk r (read ≡ Ok new)
  when_read (Ok last) h = h.0
  when_read (Err e) h = tt

  pub when_last : (r : Result Bool LineError) → ReadsSection read old new r → IfOk r (λ last. last ≡ is_begun new)
  when_last (Ok last) h = h.1
  when_last (Err e) h = tt

  pub when_bad : (r : Result Bool LineError) → ReadsSection read old new r → IfErr r (Refuses read)
  when_bad (Ok last) h = tt
  when_bad (Err e) h = h.0

  pub when_err : (r : Result Bool LineError) → ReadsSection read old new r → OnErr r (new ≡ old)
  when_err (Ok last) h = tt
  when_err (Err e) h = h.1
