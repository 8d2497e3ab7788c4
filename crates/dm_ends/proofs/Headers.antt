-- The header of a message can be sent.
use Rattle.std.proofs.Common.{◌≡◌, ◌<◌, ◌+◌, ◌^◌, ℕ, Bool, true, false, List, [], ◌∷◌, codes, Option, Some, None}
use Rattle.std.proofs.Common.{IfSome, IsTrue, refl, sym, subst, arith, if◌then◌else◌}
use Rattle.std.specs.Prelude.{⊤}
use Rattle.std.specs.Fmt.{decimal}
use Rattle.std.proofs.lemmas.Bool.{and_from}
use Rattle.wbxml_tables.specs.declared.Element.{Element}
use Rattle.wbxml_tables.specs.declared.Element.TheVariants.{ECred, EData, EFormat, ELocName, ELocURI, EMaxMsgSize}
use Rattle.wbxml_tables.specs.declared.Element.TheVariants.{EMaxObjSize, EMeta, EMsgID, ESessionID, ESource, ESyncHdr}
use Rattle.wbxml_tables.specs.declared.Element.TheVariants.{ETarget, EType, EVerDTD, EVerProto}
use Rattle.wbxml_tokens.specs.declared.token.Token.TheVariants.{Tag, End, Text}
use Rattle.dm_base.specs.Fields.{is_short}
use Rattle.dm_base.specs.declared.values.Limits.{Limits}
use Rattle.syncml_types.specs.declared.values.Cred.{Cred}
use Rattle.syncml_types.specs.declared.values.Header.{Header}
use Rattle.syncml_types.specs.Canonical.{is_text, optional, text_tokens, data_piece, data_tokens, flag_tokens}
use Rattle.syncml_types.specs.Canonical.{loc_tokens, meta_tokens, cred_tokens, header_tokens}
use Rattle.syncml_types.specs.Fitness.{all_of, is_in_limit, header_texts, header_data, loc_texts}
use Rattle.syncml_types.specs.Fitness.{meta_texts, cred_texts}
use Rattle.dm_auth.specs.Digests.{md5_meta}
use Rattle.dm_headers.specs.Headers.{credential_shown, limits_meta, next_header}
use Rattle.dm_pack.specs.Filling.{IsReadyHeader}
use Rattle.dm_pack.proofs.Within.{tag_most, one_more}
use Rattle.dm_pack.proofs.Most.{Most, none, most_append, most_parent, most_element, most_text, most_number}
use Rattle.dm_pack.proofs.Ready.{IsText, Passes, texts_pass, short_passes}
use Rattle.dm_ends.proofs.Texts.{literal, pass_text, some_number, short_text, decimal_text, digest_text}

-- ---- Data that is a text

text_piece : (v : List ℕ) → is_text v ≡ true → data_piece v ≡ Text v
text_piece v is = rw is refl

pub most_data : (n : ℕ) (v : List ℕ) → IsText n v → Most (n + 6) (data_tokens v)
unfolding data_tokens text_tokens
most_data n [] is =
    record {
      at = λ p.
          let tag = tag_most p EData false in
          let whole = one_more p (Tag EData false) [] in
          omega (arith, tag, whole);
    }
most_data n (b ∷ bs) is =
    subst (λ x. Most (n + 6) (Tag EData true ∷ x ∷ End ∷ [])) (sym (text_piece (b ∷ bs) is.text))
    (most_text n EData (b ∷ bs) is.few)

-- ---- a credential

-- of the one type, with a text of at most 24 bytes
pub record IsCredOf (c : Cred) : Type 0 where
  pub meta : c.meta ≡ Some (md5_meta None)
  pub value : IsText 24 c.value

abbrev pub IsOwnCred : Option Cred → Type 0
IsOwnCred None = ⊤
IsOwnCred (Some c) = IsCredOf c

shown_own : (name password : Option (List ℕ)) (nonce : List ℕ) → IsOwnCred (credential_shown name password nonce)
shown_own None password nonce = tt
shown_own (Some name) None nonce = tt
shown_own (Some name) (Some password) nonce = record { meta = refl; value = digest_text name password nonce }

pub cred_own : (welcomed : Bool) (name password : Option (List ℕ)) (nonce : List ℕ)
    → IsOwnCred (if welcomed then None else credential_shown name password nonce)
cred_own true name password nonce = tt
cred_own false name password nonce = shown_own name password nonce

cred_pass : (test : List ℕ → Bool) (o : Option Cred) → Passes test → IsOwnCred o → all_of (cred_texts test) o ≡ true
unfolding cred_texts meta_texts
cred_pass test None passes is = refl
cred_pass test (Some c) passes is =
    rw (
      is.meta,
      pass_text test 20 (codes "b64") passes (omega arith) (literal 20 (codes "b64") refl (omega arith)),
      pass_text test 20 (codes "syncml:auth-md5") passes (omega arith)
          (literal 20 (codes "syncml:auth-md5") refl (omega arith)),
    ) refl

cred_short : (o : Option Cred) → IsOwnCred o → all_of (λ (c : Cred). is_in_limit c.value) o ≡ true
cred_short None is = refl
cred_short (Some c) is = pass_text is_in_limit 24 c.value short_passes (omega arith) is.value

md5_most : Most 34 (meta_tokens (md5_meta None))
unfolding meta_tokens
md5_most =
    let inside = most_element _ EMeta
    (most_append (most_append (most_append (most_append (most_append (most_append (most_append
    (most_text 3 EFormat (codes "b64") (omega arith)) (most_text 15 EType (codes "syncml:auth-md5") (omega arith)))
    none) none) none) none) none) none) in
    record { at = λ p. let most = inside.at p in omega (arith, most) }

cred_most : (o : Option Cred) → IsOwnCred o → Most 68 (optional cred_tokens o)
unfolding cred_tokens
cred_most None is = record { at = λ p. omega arith }
cred_most (Some c) is =
    let inside = most_parent ECred (most_append
    (subst (λ m. Most 34 (optional meta_tokens m)) (sym is.meta) md5_most) (most_data 24 c.value is.value)) in
    record { at = λ p. let most = inside.at p in omega (arith, most) }

-- ---- names

abbrev pub IsName : Option (List ℕ) → Type 0
IsName None = ⊤
IsName (Some t) = IsText 64 t

name_pass : (test : List ℕ → Bool) (o : Option (List ℕ)) → Passes test → IsName o → all_of test o ≡ true
name_pass test None passes is = refl
name_pass test (Some t) passes is = pass_text test 64 t passes (omega arith) is

name_most : (e : Element) (o : Option (List ℕ)) → IsName o → Most 70 (optional (text_tokens e) o)
name_most e None is = record { at = λ p. omega arith }
name_most e (Some t) is = most_text 64 e t is.few

loc_most : (e : Element) (uri : List ℕ) (name : Option (List ℕ)) → IsText 64 uri → IsName name
    → Most 144 (loc_tokens e (record { uri = uri; name = name }))
unfolding loc_tokens
loc_most e uri name u n =
    let inside = most_parent e (most_append (most_text 64 ELocURI uri u.few) (name_most ELocName name n)) in
    record { at = λ p. let most = inside.at p in omega (arith, most) }

-- a place of at most 255 bytes, without a name
far_most : (e : Element) (uri : List ℕ) → IsText 255 uri → Most 265 (loc_tokens e (record { uri = uri; name = None }))
unfolding loc_tokens
far_most e uri u =
    let inside = most_parent e (most_append (most_text 255 ELocURI uri u.few) none) in
    record { at = λ p. let most = inside.at p in omega (arith, most) }

limits_most : (limits : Limits) → limits.max_msg < 2 ^ 32 → limits.max_obj < 2 ^ 32
    → Most 36 (meta_tokens (limits_meta limits))
unfolding meta_tokens
limits_most limits m o =
    let inside = most_element _ EMeta
    (most_append (most_append (most_append (most_append (most_append (most_append (most_append none none) none) none)
    (most_number EMaxMsgSize limits.max_msg m)) (most_number EMaxObjSize limits.max_obj o)) none) none) in
    record { at = λ p. let most = inside.at p in omega (arith, most) }

-- ---- the header

abbrev pub own_header : Limits → List ℕ → ℕ → List ℕ → List ℕ → Option (List ℕ) → Option Cred → Header
own_header limits session msg target source name cred = record {
  dtd = codes "1.2";
  proto = codes "DM/1.2";
  session = session;
  msg = msg;
  target = record { uri = target; name = None };
  source = record { uri = source; name = name };
  resp_uri = None;
  no_resp = false;
  cred = cred;
  meta = Some (limits_meta limits);
}

pub record IsOwn (limits : Limits) (session : List ℕ) (msg : ℕ) (target source : List ℕ)
    (name : Option (List ℕ)) (cred : Option Cred) : Type 0 where
  pub max_msg : limits.max_msg < 2 ^ 32
  pub max_obj : limits.max_obj < 2 ^ 32
  pub session_text : IsText 10 session
  pub some_msg : 0 < msg
  pub low_msg : msg < 2 ^ 32
  pub target_text : IsText 255 target
  pub source_text : IsText 64 source
  pub source_name : IsName name
  pub own_cred : IsOwnCred cred

own_most : (limits : Limits) (session : List ℕ) (msg : ℕ) (target source : List ℕ) (name : Option (List ℕ))
    (cred : Option Cred)
    → IsOwn limits session msg target source name cred
    → Most 600 (header_tokens (own_header limits session msg target source name cred))
unfolding header_tokens flag_tokens
own_most limits session msg target source name cred is =
    let inside = most_parent ESyncHdr
    (most_append (most_append (most_append (most_append (most_append (most_append (most_append (most_append (most_append
    (most_text 3 EVerDTD (codes "1.2") (omega arith)) (most_text 6 EVerProto (codes "DM/1.2") (omega arith)))
    (most_text 10 ESessionID session is.session_text.few)) (most_number EMsgID msg is.low_msg))
    (far_most ETarget target is.target_text)) (loc_most ESource source name is.source_text is.source_name))
    none) none) (cred_most cred is.own_cred)) (limits_most limits is.max_msg is.max_obj)) in
    record { at = λ p. let most = inside.at p in omega (arith, most) }

own_pass : (test : List ℕ → Bool) (limits : Limits) (session : List ℕ) (msg : ℕ) (target source : List ℕ)
    (name : Option (List ℕ)) (cred : Option Cred)
    → Passes test → IsOwn limits session msg target source name cred
    → header_texts test (own_header limits session msg target source name cred) ≡ true
unfolding header_texts loc_texts meta_texts
own_pass test limits session msg target source name cred passes is =
    rw (
      pass_text test 20 (codes "1.2") passes (omega arith) (literal 20 (codes "1.2") refl (omega arith)),
      pass_text test 20 (codes "DM/1.2") passes (omega arith) (literal 20 (codes "DM/1.2") refl (omega arith)),
      pass_text test 10 session passes (omega arith) is.session_text,
      pass_text test 255 target passes (omega arith) is.target_text,
      pass_text test 64 source passes (omega arith) is.source_text,
      name_pass test name passes is.source_name,
      cred_pass test cred passes is.own_cred,
    ) refl

pub own_ready : (limits : Limits) (session : List ℕ) (msg : ℕ) (target source : List ℕ) (name : Option (List ℕ))
    (cred : Option Cred)
    → IsOwn limits session msg target source name cred
    → IsReadyHeader (own_header limits session msg target source name cred)
unfolding header_data
own_ready limits session msg target source name cred is =
    record {
      fit = record {
        texts = and_from _ _ (own_pass is_text limits session msg target source name cred texts_pass is) refl;
        numbers = and_from _ _ (some_number msg is.some_msg) refl;
        filled = refl;
        correlators = refl;
        short_texts = and_from _ _
            (own_pass is_in_limit limits session msg target source name cred short_passes is) refl;
        short_data = and_from _ _ (cred_short cred is.own_cred) refl;
      };
      short = (own_most limits session msg target source name cred is).at 0;
    }

-- ---- names of an account

pub user_is : (o : Option (List ℕ)) → IfSome o (λ name. IsTrue (is_short name)) → IsName o
user_is None h = tt
user_is (Some t) h = short_text t h
