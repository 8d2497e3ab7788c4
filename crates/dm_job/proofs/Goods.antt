-- What a line of a job says can be sent.
use Rattle.std.proofs.Common.{◌≡◌, ◌≤◌, ◌+◌, ◌&&◌, ℕ, Bool, true, false, cond, List, [], ◌∷◌, length, Option}
use Rattle.std.proofs.Common.{Some, None}
use Rattle.std.proofs.Common.{refl, ap, subst, arith, codes, bytes_eq, nat_le, nat_lt}
use Rattle.std.specs.Prelude.{option_map, option_and_then}
use Rattle.std.specs.List.{list_all}
use Rattle.std.proofs.lemmas.Bool.{and_from, and_parts, leb-true, le-leb}
use Rattle.std.proofs.lemmas.Str.{is_utf8-from_IsUtf8}
use Rattle.wbxml_tokens.specs.Spelling.{spelled}
use Rattle.wbxml_tables.specs.declared.Element.{Element}
use Rattle.wbxml_tables.specs.declared.Element.TheVariants.{ECmdID, ECorrelator, EFormat, EItem, ELocURI, EMeta}
use Rattle.wbxml_tables.specs.declared.Element.TheVariants.{ETarget, EType}
use Rattle.dm_base.specs.Fields.{hex_of, is_word, is_visible, is_short}
use Rattle.syncml_types.specs.declared.values.Meta.{Meta}
use Rattle.syncml_types.specs.declared.values.Item.{Item}
use Rattle.syncml_types.specs.declared.command.Verb.{Verb}
use Rattle.syncml_types.specs.declared.command.Verb.TheVariants as verb
use Rattle.syncml_types.specs.declared.command.Plain.{Plain}
use Rattle.syncml_types.specs.declared.command.Command.TheVariants as command
use Rattle.syncml_types.specs.Canonical.{is_text, optional, text_tokens, flag_tokens, loc_tokens, meta_tokens}
use Rattle.syncml_types.specs.Canonical.{item_tokens, items_tokens}
use Rattle.syncml_types.specs.Canonical.{plain_tokens, command_tokens, verb_element}
use Rattle.syncml_types.specs.Fitness.{all_of, is_in_limit, loc_texts, meta_texts, item_texts, item_data}
use Rattle.syncml_types.specs.Fitness.{plain_texts, plain_filled}
use Rattle.syncml_types.specs.Fitness.{plain_correlates, command_texts, command_data, command_numbers, command_filled}
use Rattle.syncml_types.specs.Fitness.{command_correlates}
use Rattle.syncml_parts.specs.Numbering.{with_numbers}
use Rattle.syncml_parts.specs.Packing.{cut_changed}
use Rattle.syncml_types.specs.Message.{no_meta}
use Rattle.dm_pack.specs.Entries.{IsReady, whole_entry, bare_length, without_value}
use Rattle.dm_pack.proofs.Most.{Most, none, most_append, most_parent, most_element, most_text, most_number}
use Rattle.dm_pack.proofs.Ready.{IsText, IsOptional, Passes, texts_pass, short_passes}
use Rattle.dm_fields.specs.Fields.{opt_of}
use Rattle.dm_fields.proofs.Told.{some_if}
use Rattle.dm_fields.proofs.Words.{word_is_text}
use Rattle.dm_job.specs.Commands.{meta_of, item_of, plain_of, bare_in, exec_in, within_object, hex_data_in}
use Rattle.dm_job.specs.Commands.{plain_written}
use Rattle.dm_job.specs.Commands.{write_in, plain_in}
use Rattle.dm_job.specs.Sound.{IsStep}

-- ---- texts

pub word_text : (t : List ℕ) → is_word t ≡ true → IsText 255 t
word_text t h =
    let text = word_is_text t h in
    let word = and_parts (nat_lt 0 (length t) && nat_le (length t) 255) (list_all is_visible t) h in
    let few = and_parts (nat_lt 0 (length t)) (nat_le (length t) 255) word.0 in
    record {
      text = and_from _ _ (is_utf8-from_IsUtf8 t text.0) text.1;
      few = leb-true (length t) 255 few.1;
    }

short_text : (t : List ℕ) → is_short t ≡ true → IsText 64 t
short_text t h =
    let both = and_parts (is_word t) (nat_le (length t) 64) h in
    record { text = (word_text t both.0).text; few = leb-true (length t) 64 both.1 }

optional_text : (n : ℕ) (t : List ℕ) → IsText n t → IsOptional n (opt_of t)
optional_text n t h = by_dash (bytes_eq t (codes "-"))
  where
    by_dash : (b : Bool) → IsOptional n (cond b None (Some t))
    by_dash true = tt
    by_dash false = h

pass : (test : List ℕ → Bool) (n : ℕ) (t : List ℕ) → Passes test → n ≤ 255 → IsText n t → test t ≡ true
pass test n t passes low is = let few = is.few in passes.pass t is.text (omega (arith, few, low))

pass_optional : (test : List ℕ → Bool) (n : ℕ) (o : Option (List ℕ)) → Passes test → n ≤ 255 → IsOptional n o
    → all_of test o ≡ true
pass_optional test n None passes low is = refl
pass_optional test n (Some t) passes low is = pass test n t passes low is

-- ---- what a command is made of

pub record IsMade (correlator : Option (List ℕ)) (uri : List ℕ) (format media : Option (List ℕ)) : Type 0 where
  pub correlator_text : IsOptional 64 correlator
  pub uri_text : IsText 255 uri
  pub format_text : IsOptional 64 format
  pub media_text : IsOptional 255 media

meta_pass : (test : List ℕ → Bool) (format media : Option (List ℕ)) → all_of test format ≡ true
    → all_of test media ≡ true
    → all_of (meta_texts test) (meta_of format media) ≡ true
unfolding meta_texts
meta_pass test None None f m = refl
meta_pass test (Some format) media f m = rw (f, m) refl
meta_pass test None (Some media) f m = rw m refl

texts_made : (test : List ℕ → Bool) (v : Verb) (correlator : Option (List ℕ)) (uri : List ℕ)
    (format media value : Option (List ℕ))
    → Passes test → IsMade correlator uri format media
    → plain_texts test (plain_of v correlator (item_of uri (meta_of format media) value)) ≡ true
unfolding plain_texts item_texts loc_texts
texts_made test v correlator uri format media value passes made =
    rw (
      pass_optional test 64 correlator passes (omega arith) made.correlator_text,
      pass test 255 uri passes (omega arith) made.uri_text,
      meta_pass test format media (pass_optional test 64 format passes (omega arith) made.format_text)
          (pass_optional test 255 media passes (omega arith) made.media_text),
    ) refl

-- ---- lengths

optional_most : (n : ℕ) (e : Element) (o : Option (List ℕ)) → IsOptional n o → Most (n + 6) (optional (text_tokens e) o)
optional_most n e None is = record { at = λ p. omega arith }
optional_most n e (Some t) is = most_text n e t is.few

target_most : (uri : List ℕ) → IsText 255 uri → Most 265 (loc_tokens ETarget (record { uri = uri; name = None }))
unfolding loc_tokens
target_most uri is =
    let inside = most_parent ETarget (most_append (most_text 255 ELocURI uri is.few) none) in
    record { at = λ p. let most = inside.at p in omega (arith, most) }

some_meta : (format media : Option (List ℕ)) → IsOptional 64 format → IsOptional 255 media
    → Most 335 (meta_tokens (record no_meta { format = format; media = media }))
unfolding meta_tokens
some_meta format media f m =
    let inside = most_element _ EMeta
    (most_append (most_append (most_append (most_append (most_append (most_append (most_append
    (optional_most 64 EFormat format f) (optional_most 255 EType media m)) none) none) none) none) none) none) in
    record { at = λ p. let most = inside.at p in omega (arith, most) }

meta_most : (format media : Option (List ℕ)) → IsOptional 64 format → IsOptional 255 media
    → Most 335 (optional meta_tokens (meta_of format media))
meta_most None None f m = record { at = λ p. omega arith }
meta_most (Some format) media f m = some_meta (Some format) media f m
meta_most None (Some media) f m = some_meta None (Some media) f m

item_most : (uri : List ℕ) (format media : Option (List ℕ)) → IsText 255 uri → IsOptional 64 format
    → IsOptional 255 media
    → Most 604 (item_tokens (item_of uri (meta_of format media) None))
unfolding item_tokens flag_tokens
item_most uri format media u f m =
    let inside = most_element _ EItem
    (most_append (most_append (most_append (most_append (target_most uri u) none) (meta_most format media f m)) none)
    none) in
    record { at = λ p. let most = inside.at p in omega (arith, most) }

plain_most : (v : Verb) (correlator : Option (List ℕ)) (uri : List ℕ) (format media : Option (List ℕ))
    → IsMade correlator uri format media
    → Most 700 (command_tokens (with_numbers 1000000000
    (command.Plain (plain_of v correlator (item_of uri (meta_of format media) None)))))
unfolding command_tokens with_numbers plain_tokens flag_tokens items_tokens
plain_most v correlator uri format media made =
    let inside = most_parent (verb_element v)
    (most_append (most_append (most_append (most_append (most_number ECmdID 1000000000 (omega arith)) none) none)
    (optional_most 64 ECorrelator correlator made.correlator_text))
    (most_append (item_most uri format media made.uri_text made.format_text made.media_text) none)) in
    record { at = λ p. let most = inside.at p in omega (arith, most) }

-- ---- it can be sent

pub record IsGood (p : Plain) : Type 0 where
  pub step : IsStep p
  pub meta : p.meta ≡ None
  pub texts : plain_texts is_text p ≡ true
  pub short_texts : plain_texts is_in_limit p ≡ true
  pub short_data : list_all (item_data is_in_limit) p.items ≡ true
  pub filled : plain_filled p ≡ true
  pub correlates : plain_correlates p ≡ true
  pub bare : bare_length (command.Plain p) ≤ 700

-- Data stands in what writes alone, and a correlator in an Exec
abbrev MayHave : Verb → Option (List ℕ) → Option (List ℕ) → Type 0
MayHave verb.Add correlator value = correlator ≡ None
MayHave verb.Replace correlator value = correlator ≡ None
MayHave verb.Copy correlator value = (correlator ≡ None) × (value ≡ None)
MayHave verb.Delete correlator value = (correlator ≡ None) × (value ≡ None)
MayHave verb.Exec correlator value = value ≡ None
MayHave verb.Get correlator value = (correlator ≡ None) × (value ≡ None)

bare_is : (v : Verb) (correlator : Option (List ℕ)) (uri : List ℕ) (meta : Option Meta) (value : Option (List ℕ))
    → MayHave v correlator value
    → cut_changed without_value (command.Plain (plain_of v correlator (item_of uri meta value)))
    ≡ command.Plain (plain_of v correlator (item_of uri meta None))
bare_is verb.Add correlator uri meta value h = refl
bare_is verb.Replace correlator uri meta value h = refl
bare_is verb.Copy correlator uri meta value h =
    ap (λ x. command.Plain (plain_of verb.Copy correlator (item_of uri meta x))) h.1
bare_is verb.Delete correlator uri meta value h =
    ap (λ x. command.Plain (plain_of verb.Delete correlator (item_of uri meta x))) h.1
bare_is verb.Exec correlator uri meta value h =
    ap (λ x. command.Plain (plain_of verb.Exec correlator (item_of uri meta x))) h
bare_is verb.Get correlator uri meta value h =
    ap (λ x. command.Plain (plain_of verb.Get correlator (item_of uri meta x))) h.1

made_correlates : (v : Verb) (correlator : Option (List ℕ)) (item : Item) (value : Option (List ℕ))
    → MayHave v correlator value
    → plain_correlates (plain_of v correlator item) ≡ true
unfolding plain_correlates
made_correlates verb.Add correlator item value h = rw h refl
made_correlates verb.Replace correlator item value h = rw h refl
made_correlates verb.Copy correlator item value h = rw h.0 refl
made_correlates verb.Delete correlator item value h = rw h.0 refl
made_correlates verb.Exec correlator item value h = refl
made_correlates verb.Get correlator item value h = rw h.0 refl

made_filled : (v : Verb) (correlator : Option (List ℕ)) (item : Item) → plain_filled (plain_of v correlator item) ≡ true
unfolding plain_filled
made_filled verb.Add correlator item = refl
made_filled verb.Replace correlator item = refl
made_filled verb.Copy correlator item = refl
made_filled verb.Delete correlator item = refl
made_filled verb.Exec correlator item = refl
made_filled verb.Get correlator item = refl

value_short : (uri : List ℕ) (meta : Option Meta) (value : Option (List ℕ)) → all_of is_in_limit value ≡ true
    → list_all (item_data is_in_limit) (item_of uri meta value ∷ []) ≡ true
unfolding item_data
value_short uri meta value h = and_from _ true h refl

made_good : (v : Verb) (correlator : Option (List ℕ)) (uri : List ℕ) (format media value : Option (List ℕ))
    → IsMade correlator uri format media → MayHave v correlator value → all_of is_in_limit value ≡ true
    → IsGood (plain_of v correlator (item_of uri (meta_of format media) value))
made_good v correlator uri format media value made may short =
    let most = plain_most v correlator uri format media made in
    record {
      step = record { item = item_of uri (meta_of format media) value; only = refl; whole = refl; answered = refl };
      meta = refl;
      texts = texts_made is_text v correlator uri format media value texts_pass made;
      short_texts = texts_made is_in_limit v correlator uri format media value short_passes made;
      short_data = value_short uri (meta_of format media) value short;
      filled = made_filled v correlator (item_of uri (meta_of format media) value);
      correlates = made_correlates v correlator (item_of uri (meta_of format media) value) value may;
      bare = (let bytes = most.at 0 in
          let same = ap (λ c. length (spelled 0 (command_tokens (with_numbers 1000000000 c))))
          (bare_is v correlator uri (meta_of format media) value may) in
          omega (arith, bytes, same));
    }

-- ---- what lines say

same_some : {X : Type 0} (x y : X) → Some x ≡ Some y → x ≡ y
same_some x y e = cc

bare_made : (uri : List ℕ) → is_word uri ≡ true → IsMade None uri None None
bare_made uri h = record { correlator_text = tt; uri_text = word_text uri h; format_text = tt; media_text = tt }

-- an Item without a Meta
good_bare : (v : Verb) (uri : List ℕ) → MayHave v None None → is_word uri ≡ true
    → IsGood (plain_of v None (item_of uri None None))
good_bare v uri may h = made_good v None uri None None None (bare_made uri h) may refl

bare_good : (v : Verb) (fields : List (List ℕ)) (p : Plain) → MayHave v None None → bare_in v fields ≡ Some p → IsGood p
bare_good v [] p may e = absurd (cc)
bare_good v (w ∷ []) p may e = absurd (cc)
bare_good v (w ∷ uri ∷ []) p may e =
    let told = some_if (is_word uri) (Some (plain_of v None (item_of uri None None))) p e in
    subst IsGood (same_some _ p told.1) (good_bare v uri may told.0)
bare_good v (w ∷ uri ∷ x ∷ xs) p may e = absurd (cc)

exec_good : (fields : List (List ℕ)) (p : Plain) → exec_in fields ≡ Some p → IsGood p
exec_good [] p e = absurd (cc)
exec_good (w ∷ []) p e = absurd (cc)
exec_good (w ∷ uri ∷ []) p e = absurd (cc)
exec_good (w ∷ uri ∷ t ∷ []) p e =
    let told =
    some_if (is_word uri && is_short t) (Some (plain_of verb.Exec (opt_of t) (item_of uri None None))) p e in
    let both = and_parts (is_word uri) (is_short t) told.0 in
    subst IsGood (same_some _ p told.1)
    (made_good verb.Exec (opt_of t) uri None None None
    (record {
      correlator_text = optional_text 64 t (short_text t both.1);
      uri_text = word_text uri both.0;
      format_text = tt;
      media_text = tt;
    }) refl refl)
exec_good (w ∷ uri ∷ t ∷ x ∷ xs) p e = absurd (cc)

few_bytes : (n : ℕ) → nat_le n 4194304 ≡ true → nat_le n 2147483648 ≡ true
few_bytes n h = let low = leb-true n 4194304 h in le-leb n 2147483648 (omega (arith, low))

data_few : (text bytes : List ℕ) → hex_data_in text ≡ Some bytes → nat_le (length bytes) 4194304 ≡ true
data_few text bytes e = by_hex (hex_of text) e
  where
    by_hex : (o : Option (List ℕ)) → option_and_then within_object o ≡ Some bytes → nat_le (length bytes) 4194304 ≡ true
    by_hex None h = absurd (cc)
    by_hex (Some b) h =
        let told = some_if (nat_le (length b) 4194304) (Some b) bytes h in
        subst (λ x. nat_le (length x) 4194304 ≡ true) (same_some b bytes told.1) told.0

write_good : (v : Verb) (fields : List (List ℕ)) (p : Plain) → ((value : Option (List ℕ)) → MayHave v None value)
    → write_in v fields ≡ Some p → IsGood p
write_good v [] p may e = absurd (cc)
write_good v (w ∷ []) p may e = absurd (cc)
write_good v (w ∷ uri ∷ []) p may e = absurd (cc)
write_good v (w ∷ uri ∷ f ∷ []) p may e = absurd (cc)
write_good v (w ∷ uri ∷ f ∷ m ∷ []) p may e = absurd (cc)
write_good v (w ∷ uri ∷ f ∷ m ∷ t ∷ []) p may e =
    let told =
    some_if (is_word uri && is_short f && is_word m) (option_map (plain_written v uri f m) (hex_data_in t)) p e in
    let all = and_parts (is_word uri && is_short f) (is_word m) told.0 in
    let both = and_parts (is_word uri) (is_short f) all.0 in
    by_data both.0 both.1 all.1 (hex_data_in t) refl told.1
  where
    by_data : is_word uri ≡ true → is_short f ≡ true → is_word m ≡ true
        → (o : Option (List ℕ)) → hex_data_in t ≡ o → option_map (plain_written v uri f m) o ≡ Some p → IsGood p
    by_data u s k None is h = absurd (cc)
    by_data u s k (Some bytes) is h =
        subst IsGood (same_some _ p h)
        (made_good v None uri (opt_of f) (opt_of m) (Some bytes)
        (record {
          correlator_text = tt;
          uri_text = word_text uri u;
          format_text = optional_text 64 f (short_text f s);
          media_text = optional_text 255 m (word_text m k);
        }) (may (Some bytes)) (few_bytes (length bytes) (data_few t bytes is)))
write_good v (w ∷ uri ∷ f ∷ m ∷ t ∷ x ∷ xs) p may e = absurd (cc)

pub plain_good : (v : Verb) (fields : List (List ℕ)) (p : Plain) → plain_in v fields ≡ Some p → IsGood p
plain_good verb.Get fields p e = bare_good verb.Get fields p (refl, refl) e
plain_good verb.Delete fields p e = bare_good verb.Delete fields p (refl, refl) e
plain_good verb.Add fields p e = write_good verb.Add fields p (λ value. refl) e
plain_good verb.Replace fields p e = write_good verb.Replace fields p (λ value. refl) e
plain_good verb.Exec fields p e = exec_good fields p e
plain_good verb.Copy fields p e = absurd (cc)

pub plain_ready : (p : Plain) → IsGood p → IsReady (whole_entry (command.Plain p))
unfolding command_texts command_data command_numbers command_filled command_correlates with_numbers
plain_ready p good =
    record {
      fit = record {
        texts = good.texts;
        numbers = refl;
        filled = good.filled;
        correlators = good.correlates;
        short_texts = good.short_texts;
        short_data = good.short_data;
      };
      short = good.bare;
    }
