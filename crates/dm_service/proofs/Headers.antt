-- The header of the server's message can be sent.
use Rattle.std.proofs.Common.{◌≡◌, ◌<◌, ◌+◌, ◌^◌, ℕ, Bool, true, false, cond, List, length, codes, None, Some, refl}
use Rattle.std.proofs.Common.{arith}
use Rattle.std.specs.Prelude.{nat_lt}
use Rattle.std.specs.Fmt.{decimal}
use Rattle.std.proofs.lemmas.Bool.{and_parts, ltb-false}
use Rattle.syncml_types.specs.declared.values.Header.{Header}
use Rattle.syncml_types.specs.declared.values.Loc.{Loc}
use Rattle.syncml_types.specs.Message.{Parts}
use Rattle.syncml_types.specs.Canonical.{is_text}
use Rattle.syncml_types.specs.Fitness.{header_texts, loc_texts, IsFit}
use Rattle.dm_headers.specs.Headers.{next_header}
use Rattle.dm_pack.specs.Filling.{IsReadyHeader}
use Rattle.dm_pack.proofs.Ready.{IsText}
use Rattle.dm_ends.specs.Ready.{IsReadyAccount, IsReadyLimits}
use Rattle.dm_ends.proofs.Texts.{literal, decimal_text, short_text}
use Rattle.dm_ends.proofs.Headers.{own_ready, cred_own}
use Rattle.dm_service.specs.declared.progress.ServiceProgress.{ServiceProgress}
use Rattle.dm_service.specs.Service.{Service}
use Rattle.dm_service.specs.Sending.{client_target, header_for}

loc-text : (l : Loc) → loc_texts is_text l ≡ true → is_text l.uri ≡ true
unfolding loc_texts
loc-text l h = (and_parts _ _ h).0

source-text : (h : Header) → header_texts is_text h ≡ true → is_text h.source.uri ≡ true
unfolding header_texts
source-text h all = loc-text h.source (and_parts _ _ (and_parts _ _ (and_parts _ _ (and_parts _ _ all).0).0).0).1

short-target : (uri : List ℕ) (long : Bool) → nat_lt 255 (length uri) ≡ long → is_text uri ≡ true
    → IsText 255 (cond long (codes "device") uri)
short-target uri true h text = literal 255 (codes "device") refl (omega arith)
short-target uri false h text = record { text = text; few = ltb-false 255 (length uri) h }

target-text : (m : Parts) → IsFit m.header m.body → IsText 255 (client_target m).uri
target-text m fit =
    short-target m.header.source.uri (nat_lt 255 (length m.header.source.uri)) refl
    (source-text m.header (and_parts _ _ fit.texts).0)

pub header_ready : (v : Service) (p : ServiceProgress) (m : Parts) → IsReadyLimits v.job.limits → IsReadyAccount v.job.account
    → p.number < 2 ^ 32 → p.standing.own + 1 < 2 ^ 32 → IsFit m.header m.body → IsReadyHeader (header_for v p m)
unfolding next_header
header_ready v p m limits account number own fit =
    let object = limits.max_obj in
    let a = v.job.account in
    own_ready v.job.limits (decimal p.number) (p.standing.own + 1) (client_target m).uri a.server None _
    (record {
      max_msg = limits.max_msg;
      max_obj = omega (arith, object);
      session_text = decimal_text p.number number;
      some_msg = omega arith;
      low_msg = own;
      target_text = target-text m fit;
      source_text = short_text a.server account.server;
      source_name = tt;
      own_cred = cred_own p.standing.welcomed (Some a.server) a.server_password a.server_nonce;
    })
