-- Statuses, Results and Alerts of bounded texts can be sent.
use Rattle.std.proofs.Common.{◌≡◌, ◌<◌, ◌≤◌, ◌+◌, ◌^◌, ℕ, Bool, true, false, not, List, [], ◌∷◌, length, Option, Some}
use Rattle.std.proofs.Common.{None, refl, sym, ap, subst, arith}
use Rattle.std.specs.Prelude.{⊤}
use Rattle.std.specs.List.{list_all}
use Rattle.std.proofs.lemmas.Bool.{le-leb, ne_eqb}
use Rattle.wbxml_tables.specs.declared.Element.{Element}
use Rattle.wbxml_tables.specs.declared.Element.TheVariants.{EAlert, EChal, ECmd, ECmdID, ECmdRef, EData, EFormat, EItem}
use Rattle.wbxml_tables.specs.declared.Element.TheVariants.{ELocURI, EMeta, EMsgRef, ENextNonce, EResults, ESource}
use Rattle.wbxml_tables.specs.declared.Element.TheVariants.{EStatus, ETargetRef, EType}
use Rattle.syncml_types.specs.declared.values.Meta.{Meta}
use Rattle.syncml_types.specs.declared.values.Item.{Item}
use Rattle.syncml_types.specs.declared.command.Command.{Command}
use Rattle.syncml_types.specs.declared.command.Command.TheVariants as command
use Rattle.syncml_types.specs.Canonical.{is_text, optional, text_tokens, flag_tokens, loc_tokens, meta_tokens}
use Rattle.syncml_types.specs.Canonical.{chal_tokens, item_tokens, items_tokens, texts_tokens, alert_tokens}
use Rattle.syncml_types.specs.Canonical.{status_tokens, results_tokens, command_tokens}
use Rattle.syncml_types.specs.Fitness.{all_of, is_in_limit, is_number, loc_texts, meta_texts, item_texts, item_data}
use Rattle.syncml_types.specs.Fitness.{alert_texts, status_texts, results_texts, command_texts, command_data}
use Rattle.syncml_types.specs.Fitness.{command_numbers, command_filled, command_correlates}
use Rattle.syncml_parts.specs.Numbering.{with_numbers}
use Rattle.syncml_types.specs.Message.{no_meta}
use Rattle.dm_pack.specs.Entries.{IsReady, whole_entry}
use Rattle.dm_pack.proofs.Fit.{both}
use Rattle.dm_pack.proofs.Most.{Most, none, most_append, most_parent, most_element, most_text, most_number}

-- ---- texts

pub record IsText (most : ℕ) (t : List ℕ) : Type 0 where
  pub text : is_text t ≡ true
  pub few : length t ≤ most

-- where there is one
abbrev pub IsOptional : ℕ → Option (List ℕ) → Type 0
IsOptional most None = ⊤
IsOptional most (Some t) = IsText most t

-- at most one
abbrev pub IsOneAtMost : ℕ → List (List ℕ) → Type 0
IsOneAtMost most [] = ⊤
IsOneAtMost most (t ∷ []) = IsText most t
IsOneAtMost most (t ∷ u ∷ ts) = ⊥

-- what texts pass that are texts and have at most 1,000 bytes
pub record Passes (test : List ℕ → Bool) : Type 0 where
  pub pass : (t : List ℕ) → is_text t ≡ true → length t ≤ 1000 → test t ≡ true

pub texts_pass : Passes is_text
texts_pass = record { pass = λ t text few. text }

pub short_passes : Passes is_in_limit
short_passes = record { pass = λ t text few. le-leb (length t) 2147483648 (omega (arith, few)) }

pass_text : (test : List ℕ → Bool) (most : ℕ) (t : List ℕ) → Passes test → most ≤ 1000 → IsText most t → test t ≡ true
pass_text test most t passes within is = let few = is.few in passes.pass t is.text (omega (arith, few, within))

pass_optional : (test : List ℕ → Bool) (most : ℕ) (o : Option (List ℕ)) → Passes test → most ≤ 1000 → IsOptional most o
    → all_of test o ≡ true
pass_optional test most None passes within is = refl
pass_optional test most (Some t) passes within is = pass_text test most t passes within is

pass_one : (test : List ℕ → Bool) (most : ℕ) (ts : List (List ℕ)) → Passes test → most ≤ 1000 → IsOneAtMost most ts
    → list_all test ts ≡ true
pass_one test most [] passes within is = refl
pass_one test most (t ∷ []) passes within is = both (test t) true (pass_text test most t passes within is) refl
pass_one test most (t ∷ u ∷ ts) passes within is = absurd is

-- ---- lengths

most_optional : (most : ℕ) (e : Element) (o : Option (List ℕ)) → IsOptional most o
    → Most (most + 6) (optional (text_tokens e) o)
most_optional most e None is = record { at = λ p. omega arith }
most_optional most e (Some t) is = most_text most e t is.few

most_one : (most : ℕ) (e : Element) (ts : List (List ℕ)) → IsOneAtMost most ts → Most (most + 6) (texts_tokens e ts)
unfolding texts_tokens
most_one most e [] is = record { at = λ p. omega arith }
most_one most e (t ∷ []) is =
    let whole = most_append (most_text most e t is.few) none in
    record { at = λ p. let most = whole.at p in omega (arith, most) }
most_one most e (t ∷ u ∷ ts) is = absurd is

most_source : (most : ℕ) (uri : List ℕ) → IsText most uri
    → Most (most + 10) (loc_tokens ESource (record { uri = uri; name = None }))
unfolding loc_tokens
most_source most uri is =
    let inside = most_parent ESource (most_append (most_text most ELocURI uri is.few) none) in
    record { at = λ p. let most = inside.at p in omega (arith, most) }

-- ---- a Status

-- a challenge
abbrev pub chal : List ℕ → List ℕ → List ℕ → Meta
chal format media nonce = record no_meta { format = Some format; media = Some media; next_nonce = Some nonce }

pub record IsChalMeta (m : Meta) : Type 0 where
  pub format : List ℕ
  pub media : List ℕ
  pub nonce : List ℕ
  pub is : m ≡ chal format media nonce
  pub format_text : IsText 20 format
  pub media_text : IsText 40 media
  pub nonce_text : IsText 40 nonce

abbrev pub IsChal : Option Meta → Type 0
IsChal None = ⊤
IsChal (Some m) = IsChalMeta m

three_pass : (test : List ℕ → Bool) (format media nonce : List ℕ) → test format ≡ true → test media ≡ true
    → test nonce ≡ true
    → meta_texts test (chal format media nonce) ≡ true
unfolding meta_texts
three_pass test format media nonce f t n = rw (f, t, n) refl

chal_pass : (test : List ℕ → Bool) (o : Option Meta) → Passes test → IsChal o → all_of (meta_texts test) o ≡ true
chal_pass test None passes is = refl
chal_pass test (Some m) passes is =
    subst (λ x. meta_texts test x ≡ true) (sym is.is)
    (three_pass test is.format is.media is.nonce (pass_text test 20 is.format passes (omega arith) is.format_text)
    (pass_text test 40 is.media passes (omega arith) is.media_text)
    (pass_text test 40 is.nonce passes (omega arith) is.nonce_text))

most_meta : (format media nonce : List ℕ) → IsText 20 format → IsText 40 media → IsText 40 nonce
    → Most 130 (chal_tokens (chal format media nonce))
unfolding chal_tokens meta_tokens
most_meta format media nonce f t n =
    let meta = most_element _ EMeta
    (most_append
    (most_append
    (most_append
    (most_append
    (most_append (most_append (most_append (most_text 20 EFormat format f.few) (most_text 40 EType media t.few)) none)
    (most_text 40 ENextNonce nonce n.few)) none) none) none) none) in
    let inside = most_parent EChal meta in
    record { at = λ p. let most = inside.at p in omega (arith, most) }

most_chal : (o : Option Meta) → IsChal o → Most 130 (optional chal_tokens o)
most_chal None is = record { at = λ p. omega arith }
most_chal (Some m) is =
    subst (λ x. Most 130 (chal_tokens x)) (sym is.is)
    (most_meta is.format is.media is.nonce is.format_text is.media_text is.nonce_text)

abbrev pub status : ℕ → ℕ → List ℕ → List (List ℕ) → Option Meta → ℕ → Command
status msg ref cmd targets challenge code =
    command.Status (record {
      id = 0;
      msg_ref = msg;
      cmd_ref = ref;
      cmd = cmd;
      target_refs = targets;
      source_refs = [];
      chal = challenge;
      code = code;
      items = [];
    })

most_status : (msg ref : ℕ) (cmd : List ℕ) (targets : List (List ℕ)) (challenge : Option Meta) (code : ℕ) → msg < 2 ^ 32
    → ref < 2 ^ 32 → IsText 20 cmd
    → IsOneAtMost 255 targets → IsChal challenge → code < 2 ^ 32
    → Most 485 (command_tokens (with_numbers 1000000000 (status msg ref cmd targets challenge code)))
unfolding command_tokens with_numbers status_tokens texts_tokens items_tokens
most_status msg ref cmd targets challenge code m r c t h k =
    let inside = most_append (most_append (most_append (most_append (most_append (most_append (most_append (most_append
    (most_number ECmdID 1000000000 (omega arith)) (most_number EMsgRef msg m)) (most_number ECmdRef ref r))
    (most_text 20 ECmd cmd c.few))
    (most_one 255 ETargetRef targets t)) none) (most_chal challenge h)) (most_number EData code k)) none in
    record { at = λ p. let most = (most_parent EStatus inside).at p in omega (arith, most) }

status_pass : (test : List ℕ → Bool) (msg ref : ℕ) (cmd : List ℕ) (targets : List (List ℕ)) (challenge : Option Meta)
    (code : ℕ) → Passes test → IsText 20 cmd
    → IsOneAtMost 255 targets → IsChal challenge → command_texts test (status msg ref cmd targets challenge code) ≡ true
unfolding command_texts status_texts
status_pass test msg ref cmd targets challenge code passes c t h =
    rw (
      pass_text test 20 cmd passes (omega arith) c,
      pass_one test 255 targets passes (omega arith) t,
      chal_pass test challenge passes h,
    ) refl

some_number : (n : ℕ) → 0 < n → is_number n ≡ true
some_number n some = ap not (ne_eqb n 0 (λ e. omega (arith, e, some)))

pub status_ready : (msg ref : ℕ) (cmd : List ℕ) (targets : List (List ℕ)) (challenge : Option Meta) (code : ℕ) → 0 < msg
    → msg < 2 ^ 32 → ref < 2 ^ 32
    → IsText 20 cmd → IsOneAtMost 255 targets → IsChal challenge → code < 2 ^ 32
    → IsReady (whole_entry (status msg ref cmd targets challenge code))
unfolding command_data command_numbers command_filled command_correlates with_numbers
status_ready msg ref cmd targets challenge code some m r c t h k =
    record {
      fit = record {
        texts = status_pass is_text msg ref cmd targets challenge code texts_pass c t h;
        numbers = some_number msg some;
        filled = refl;
        correlators = refl;
        short_texts = status_pass is_in_limit msg ref cmd targets challenge code short_passes c t h;
        short_data = refl;
      };
      short = let most = (most_status msg ref cmd targets challenge code m r c t h k).at 0 in omega (arith, most);
    }

-- ---- Results of one item

-- what was found: a URI, Format and Type, and Data
abbrev pub found_item : List ℕ → List ℕ → Option (List ℕ) → Option (List ℕ) → Item
found_item uri format media value = record {
  target = None;
  source = Some (record { uri = uri; name = None });
  meta = Some (record no_meta { format = Some format; media = media });
  value = value;
  more = false;
}

abbrev pub results : ℕ → ℕ → Item → Command
results msg ref i =
    command.Results (record {
      id = 0;
      msg_ref = Some msg;
      cmd_ref = ref;
      meta = None;
      target_ref = None;
      source_ref = None;
      items = i ∷ [];
    })

most_found : (uri format : List ℕ) (media : Option (List ℕ)) → IsText 255 uri → IsText 20 format → IsOptional 255 media
    → Most 560 (item_tokens (found_item uri format media None))
unfolding item_tokens flag_tokens meta_tokens
most_found uri format media u f t =
    let meta = most_element _ EMeta
    (most_append
    (most_append
    (most_append
    (most_append
    (most_append (most_append (most_append (most_text 20 EFormat format f.few) (most_optional 255 EType media t)) none)
    none) none) none) none) none) in
    let inside = most_element _ EItem
    (most_append (most_append (most_append (most_append none (most_source 255 uri u)) meta) none) none) in
    record { at = λ p. let most = inside.at p in omega (arith, most) }

most_results : (msg ref : ℕ) (uri format : List ℕ) (media value : Option (List ℕ)) → msg < 2 ^ 32 → ref < 2 ^ 32
    → IsText 255 uri → IsText 20 format
    → IsOptional 255 media
    → Most 612
    (command_tokens (with_numbers 1000000000
    (results msg ref (record (found_item uri format media value) { value = None }))))
unfolding command_tokens with_numbers results_tokens items_tokens
most_results msg ref uri format media value m r u f t =
    let inside = most_parent EResults
    (most_append (most_append (most_append (most_append (most_append (most_append
    (most_number ECmdID 1000000000 (omega arith)) (most_number EMsgRef msg m)) (most_number ECmdRef ref r)) none) none)
    none)
    (most_append (most_found uri format media u f t) none)) in
    record { at = λ p. let most = inside.at p in omega (arith, most) }

results_pass : (test : List ℕ → Bool) (msg ref : ℕ) (uri format : List ℕ) (media value : Option (List ℕ)) → Passes test
    → IsText 255 uri → IsText 20 format
    → IsOptional 255 media → command_texts test (results msg ref (found_item uri format media value)) ≡ true
unfolding command_texts results_texts item_texts loc_texts meta_texts
results_pass test msg ref uri format media value passes u f t =
    rw (
      pass_text test 255 uri passes (omega arith) u,
      pass_text test 20 format passes (omega arith) f,
      pass_optional test 255 media passes (omega arith) t,
    ) refl

pub results_ready : (msg ref : ℕ) (uri format : List ℕ) (media value : Option (List ℕ)) → 0 < msg → msg < 2 ^ 32
    → ref < 2 ^ 32 → IsText 255 uri
    → IsText 20 format → IsOptional 255 media → all_of is_in_limit value ≡ true
    → IsReady (whole_entry (results msg ref (found_item uri format media value)))
unfolding command_data command_numbers command_filled command_correlates with_numbers item_data
results_ready msg ref uri format media value some m r u f t few =
    record {
      fit = record {
        texts = results_pass is_text msg ref uri format media value texts_pass u f t;
        numbers = some_number msg some;
        filled = refl;
        correlators = refl;
        short_texts = results_pass is_in_limit msg ref uri format media value short_passes u f t;
        short_data = both _ _ few refl;
      };
      short = let most = (most_results msg ref uri format media value m r u f t).at 0 in omega (arith, most);
    }

-- ---- an Alert, which may name a URI

abbrev pub named_items : List (List ℕ) → List Item
named_items [] = []
named_items (uri ∷ uris) =
    record { target = None; source = Some (record { uri = uri; name = None }); meta = None; value = None; more = false }
    ∷ named_items uris

abbrev pub alert : ℕ → List (List ℕ) → Command
alert code uris =
    command.Alert (record { id = 0; no_resp = false; code = code; correlator = None; items = named_items uris })

most_named : (uris : List (List ℕ)) → IsOneAtMost 255 uris → Most 269 (items_tokens (named_items uris))
unfolding items_tokens item_tokens flag_tokens
most_named [] is = record { at = λ p. omega arith }
most_named (uri ∷ []) is =
    let item =
    most_element _ EItem
    (most_append (most_append (most_append (most_append none (most_source 255 uri is)) none) none) none) in
    let whole = most_append item none in
    record { at = λ p. let most = whole.at p in omega (arith, most) }
most_named (uri ∷ v ∷ uris) is = absurd is

most_alert : (code : ℕ) (uris : List (List ℕ)) → code < 2 ^ 32 → IsOneAtMost 255 uris
    → Most 305 (command_tokens (with_numbers 1000000000 (alert code uris)))
unfolding command_tokens with_numbers alert_tokens flag_tokens
most_alert code uris k is =
    let inside = most_parent EAlert
    (most_append
    (most_append (most_append (most_append (most_number ECmdID 1000000000 (omega arith)) none)
    (most_number EData code k)) none) (most_named uris is)) in
    record { at = λ p. let most = inside.at p in omega (arith, most) }

named_pass : (test : List ℕ → Bool) (uris : List (List ℕ)) → Passes test → IsOneAtMost 255 uris
    → list_all (item_texts test) (named_items uris) ≡ true
unfolding item_texts loc_texts
named_pass test [] passes is = refl
named_pass test (uri ∷ []) passes is = rw (pass_text test 255 uri passes (omega arith) is) refl
named_pass test (uri ∷ v ∷ uris) passes is = absurd is

named_data : (uris : List (List ℕ)) → list_all (item_data is_in_limit) (named_items uris) ≡ true
unfolding item_data
named_data [] = refl
named_data (uri ∷ uris) = named_data uris

pub alert_ready : (code : ℕ) (uris : List (List ℕ)) → code < 2 ^ 32 → IsOneAtMost 255 uris
    → IsReady (whole_entry (alert code uris))
unfolding command_texts alert_texts command_data command_numbers command_filled command_correlates with_numbers
alert_ready code uris k is =
    record {
      fit = record {
        texts = named_pass is_text uris texts_pass is;
        numbers = refl;
        filled = refl;
        correlators = refl;
        short_texts = named_pass is_in_limit uris short_passes is;
        short_data = named_data uris;
      };
      short = let most = (most_alert code uris k is).at 0 in omega (arith, most);
    }
