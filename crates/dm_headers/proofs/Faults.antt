-- What a message with a fault leaves, and what stays accepted.
use Rattle.std.proofs.Common.{◌≡◌, ℕ, Bool, true, false, cond, List, None, Some, refl, subst, ap}
use Rattle.std.specs.Prelude.{◌||◌, ◌&&◌, not, unwrap_or, is_some, codes, bytes_eq}
use Rattle.syncml_types.specs.Message.{Parts}
use Rattle.dm_auth.specs.declared.accounts.Account.{Account}
use Rattle.dm_headers.specs.declared.checks.Side.{Side}
use Rattle.dm_headers.specs.declared.standings.Standing.{Standing}
use Rattle.dm_headers.specs.CmdIds.{body_ids, has_twins}
use Rattle.dm_headers.specs.Checks.{Login, login_of, with_both, fault_of, judged_by, header_code, is_challenged}
use Rattle.dm_headers.specs.Checks.{is_denied, passes, header_status, status_read}
use Rattle.dm_headers.specs.Standings.{standing_after, is_second, hears}
use Rattle.dm_headers.specs.Laws.{ReadsNothing, StaysAccepted}

-- ---- the code of a fault is none of a credential

record IsFault (code : ℕ) : Type 0 where
  denied : is_denied code ≡ false
  passing : passes code ≡ false
  challenged : is_challenged code ≡ false

same-code : (n code : ℕ) → Some n ≡ Some code → IsFault n → IsFault code
same-code n code e f = subst IsFault (ap (λ o. unwrap_or o 0) e) f

which : (a b c : Bool) (code : ℕ) → cond a (Some 505) (cond b (Some 513) (cond c (Some 400) None)) ≡ Some code
    → IsFault code
which true b c code e = same-code 505 code e (record { denied = refl; passing = refl; challenged = refl })
which false true c code e = same-code 513 code e (record { denied = refl; passing = refl; challenged = refl })
which false false true code e = same-code 400 code e (record { denied = refl; passing = refl; challenged = refl })
which false false false code e = absurd (cc)

is-fault : (m : Parts) (code : ℕ) → fault_of m ≡ Some code → IsFault code
is-fault m code f =
    which (not (bytes_eq m.header.dtd (codes "1.2"))) (not (bytes_eq m.header.proto (codes "DM/1.2")))
    (has_twins (body_ids m.body)) code f

fault-code : (accepted : Bool) (login : Login) (m : Parts) (code : ℕ) → fault_of m ≡ Some code
    → header_code accepted login m ≡ code
unfolding header_code
fault-code accepted login m code f = ap (λ o. unwrap_or o (judged_by accepted login m.header.cred)) f

fault-status : (own : ℕ) (m : Parts) (code : ℕ) → fault_of m ≡ Some code → status_read own m ≡ None
unfolding status_read
fault-status own m code f = ap (λ o. cond (is_some o) None (header_status own m.body)) f

-- ---- what it leaves

or-no : (b c : Bool) → c ≡ false → (b || c) ≡ b
or-no true c e = refl
or-no false c e = e

and-no : (b c : Bool) → c ≡ false → (b && c) ≡ false
and-no true c e = e
and-no false c e = refl

neither : (a b c d : Bool) → b ≡ false → d ≡ false → ((a && b) || (c && d)) ≡ false
neither a b c d e f = rw (and-no a b e, and-no c d f) refl

leaves : (theirs : Side) (a : Account) (s : Standing) (m : Parts) (nonce : List ℕ) (code : ℕ) → IsFault code
    → ReadsNothing a s (record {
      code = code;
      status = 0;
      standing = standing_after s m code 0;
      account = with_both theirs (cond (is_challenged code) (Some nonce) None) None a;
      second = is_second s code 0;
    })
leaves theirs a s m nonce code f = record {
  account = ap (λ b. with_both theirs (cond b (Some nonce) None) None a) f.challenged;
  accepted = or-no s.accepted (passes code) f.passing;
  welcomed = or-no s.welcomed false refl;
  they_failed = or-no s.they_failed (is_denied code) f.denied;
  we_failed = or-no s.we_failed false refl;
  second = neither s.they_failed (is_denied code) s.we_failed false f.denied refl;
}

pub fault_reads_nothing : (theirs : Side) (a : Account) (s : Standing) (m : Parts) (nonce : List ℕ) (code : ℕ)
    → fault_of m ≡ Some code → ReadsNothing a s (hears theirs a s m nonce)
unfolding hears
fault_reads_nothing theirs a s m nonce code f =
    rw (fault-code s.accepted (login_of theirs a) m code f, fault-status s.own m code f)
    (leaves theirs a s m nonce code (is-fault m code f))

-- ---- what stays

yes-or : (a b : Bool) → a ≡ true → (a || b) ≡ true
yes-or a b e = ap (λ x. x || b) e

pub accepted_for_good : (theirs : Side) (a : Account) (s : Standing) (m : Parts) (nonce : List ℕ)
    → StaysAccepted s (hears theirs a s m nonce)
unfolding hears
accepted_for_good theirs a s m nonce = record {
  accepted = yes-or s.accepted _;
  welcomed = yes-or s.welcomed _;
}
