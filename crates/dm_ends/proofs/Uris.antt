-- Visible bytes are a text; a URI that is read has such bytes, few of them, and so has the printed one.
use Rattle.std.proofs.Common.{◌≡◌, ◌<◌, ◌≤◌, ◌==◌, ◌||◌, ℕ, true, false, cond, not, List, [], ◌∷◌, ◌++◌, length, Option}
use Rattle.std.proofs.Common.{Some, None, Ok, Err, refl, sym, subst, ◌∙◌, arith, inl, inr, length-append}
use Rattle.std.specs.Prelude.{Result, codes, bytes_eq, is_ok}
use Rattle.std.specs.List.{list_all, list_any, AllByRecursion}
use Rattle.std.specs.Str.{is_utf8, IsAscii}
use Rattle.std.proofs.lemmas.Bool.{and_parts, and_from, leb-true}
use Rattle.std.proofs.lemmas.Grind.{common_steps}
use Rattle.std.proofs.lemmas.List.Folds.{list_all-append}
use Rattle.std.proofs.lemmas.Str.{IsUtf8-from_ascii, is_utf8-from_IsUtf8, IsUtf8-from_is_utf8}
use Rattle.std.proofs.lemmas.Str.Ascii.{IsAscii-nil, IsAscii-cons}
use Rattle.dm_base.specs.Fields.{is_visible}
use Rattle.syncml_types.specs.Canonical.{is_text}
use Rattle.dm_uri.specs.declared.uri.Prop.TheVariants as prop
use Rattle.dm_uri.specs.declared.uri.Query.{Query}
use Rattle.dm_uri.specs.declared.uri.Query.TheVariants as query
use Rattle.dm_uri.specs.declared.uri.Uri.{Uri}
use Rattle.dm_uri.specs.declared.uri.UriError.{UriError}
use Rattle.dm_uri.specs.Names.{is_name_byte, has_name_form, IsPathPart, is_within_limits, joined, printed_path}
use Rattle.dm_uri.specs.Grammar.{query_text, printed, IsUriText}
use Rattle.dm_uri.specs.Reading.{parse_of}
use Rattle.dm_uri.proofs.BothWays.{reads_grammar}
use Rattle.dm_uri.proofs.PathParts.{same_bytes}
use Rattle.dm_pack.proofs.Ready.{IsText, IsOneAtMost}
use Rattle.dm_atomic.specs.Made.{uri_in}

-- ---- visible bytes

abbrev pub IsVisible : List ℕ → Type 0
IsVisible t = list_all is_visible t ≡ true

low : (b : ℕ) → is_visible b ≡ true → b < 128
low b h = grind (arith, common_steps, h)

not_zero : (b : ℕ) → is_visible b ≡ true → not (b == 0) ≡ true
not_zero b h = grind (arith, common_steps, h)

visible_ascii : (t : List ℕ) → IsVisible t → IsAscii t
visible_ascii [] h = IsAscii-nil
visible_ascii (b ∷ bs) h =
    let parts = and_parts (is_visible b) (list_all is_visible bs) h in
    IsAscii-cons b bs (low b parts.0) (visible_ascii bs parts.1)

no_zero : (t : List ℕ) → IsVisible t → list_all (λ b. not (b == 0)) t ≡ true
no_zero [] h = refl
no_zero (b ∷ bs) h =
    let parts = and_parts (is_visible b) (list_all is_visible bs) h in
    and_from (not (b == 0)) (list_all (λ x. not (x == 0)) bs) (not_zero b parts.0) (no_zero bs parts.1)

pub visible_text : (t : List ℕ) → IsVisible t → is_text t ≡ true
visible_text t h =
    and_from (is_utf8 t) (list_all (λ b. not (b == 0)) t)
    (is_utf8-from_IsUtf8 t (IsUtf8-from_ascii t (visible_ascii t h))) (no_zero t h)

pub visible_append : (s t : List ℕ) → IsVisible s → IsVisible t → IsVisible (s ++ t)
visible_append s t h k = list_all-append is_visible s t ∙ and_from (list_all is_visible s) (list_all is_visible t) h k

-- the two ways to say it
pub one_of : (most : ℕ) (t : List ℕ) (ts : List (List ℕ)) → AllByRecursion (IsText most) ts
    → list_any (bytes_eq t) ts ≡ true → IsText most t
one_of most t [] all h = absurd (cc)
one_of most t (u ∷ us) all h =
    elim (bytes_eq t u) as (λ b. bytes_eq t u ≡ b → (b || list_any (bytes_eq t) us) ≡ true → IsText most t) [
      | true ↦ λ e k. subst (IsText most) (sym (same_bytes t u e)) all.0
      | false ↦ λ e k. one_of most t us all.1 k
    ] refl h

-- ---- a path

name_byte : (b : ℕ) → is_name_byte b ≡ true → is_visible b ≡ true
name_byte b h = grind (arith, common_steps, h)

name_bytes : (bs : List ℕ) → list_all is_name_byte bs ≡ true → IsVisible bs
name_bytes [] h = refl
name_bytes (b ∷ bs) h =
    let parts = and_parts (is_name_byte b) (list_all is_name_byte bs) h in
    and_from (is_visible b) (list_all is_visible bs) (name_byte b parts.0) (name_bytes bs parts.1)

form_bytes : (name : List ℕ) → has_name_form name ≡ true → list_all is_name_byte name ≡ true
form_bytes name h = grind (arith, common_steps, h)

pub name_visible : (name : List ℕ) → has_name_form name ≡ true → IsVisible name
name_visible name h = name_bytes name (form_bytes name h)

pub joined_visible : (names : List (List ℕ)) → list_all has_name_form names ≡ true → IsVisible (joined names)
joined_visible [] h = refl
joined_visible (n ∷ []) h = name_visible n (and_parts (has_name_form n) true h).0
joined_visible (n ∷ m ∷ ms) h =
    let parts = and_parts (has_name_form n) (list_all has_name_form (m ∷ ms)) h in
    visible_append n (0x2F ∷ joined (m ∷ ms)) (name_visible n parts.0) (joined_visible (m ∷ ms) parts.1)

pub path_visible : (names : List (List ℕ)) → list_all has_name_form names ≡ true → IsVisible (printed_path names)
path_visible [] h = refl
path_visible (n ∷ ns) h = visible_append (codes "./") (joined (n ∷ ns)) refl (joined_visible (n ∷ ns) h)

part_visible : (names : List (List ℕ)) (part : List ℕ) → IsPathPart names part → IsVisible part
part_visible [] part (h, inl e) = subst IsVisible (sym e) refl
part_visible [] part (h, inr e) = subst IsVisible (sym e) refl
part_visible (n ∷ ns) part (h, inl e) = subst IsVisible (sym e) (joined_visible (n ∷ ns) h)
part_visible (n ∷ ns) part (h, inr e) =
    subst IsVisible (sym e) (visible_append (codes "./") (joined (n ∷ ns)) refl (joined_visible (n ∷ ns) h))

-- ---- a query

record IsQueryText (t : List ℕ) : Type 0 where
  visible : IsVisible t
  few : length t ≤ 16

query_of_text : (q : Query) → IsQueryText (query_text q)
query_of_text query.Plain = record { visible = refl; few = omega arith }
query_of_text (query.Prop prop.Acl) = record { visible = refl; few = omega arith }
query_of_text (query.Prop prop.Format) = record { visible = refl; few = omega arith }
query_of_text (query.Prop prop.Name) = record { visible = refl; few = omega arith }
query_of_text (query.Prop prop.Size) = record { visible = refl; few = omega arith }
query_of_text (query.Prop prop.Media) = record { visible = refl; few = omega arith }
query_of_text (query.Prop prop.Title) = record { visible = refl; few = omega arith }
query_of_text (query.Prop prop.VerNo) = record { visible = refl; few = omega arith }
query_of_text (query.Prop prop.TStamp) = record { visible = refl; few = omega arith }
query_of_text query.Struct = record { visible = refl; few = omega arith }
query_of_text query.StructData = record { visible = refl; few = omega arith }

-- ---- a URI

within_printed : (names : List (List ℕ)) → is_within_limits names ≡ true → length (printed_path names) ≤ 255
within_printed names h = leb-true (length (printed_path names)) 255 (and_parts _ _ h).1

pub printed_path_text : (names : List (List ℕ)) → list_all has_name_form names ≡ true → is_within_limits names ≡ true
    → IsText 255 (printed_path names)
printed_path_text names form within = record {
  text = visible_text (printed_path names) (path_visible names form);
  few = within_printed names within;
}

-- the printed URI may be longer than the one that is read
printed_text : (uri : Uri) → list_all has_name_form uri.path ≡ true → is_within_limits uri.path ≡ true
    → IsText 271 (printed uri)
printed_text uri form within =
    let q = query_of_text uri.query in
    let short = within_printed uri.path within in
    let few = q.few in
    let sum = length-append (printed_path uri.path) (query_text uri.query) in
    record {
      text = visible_text (printed uri)
          (visible_append (printed_path uri.path) (query_text uri.query) (path_visible uri.path form) q.visible);
      few = omega (arith, short, few, sum);
    }

pub parsed_printed : (text : List ℕ) (uri : Uri) → parse_of text ≡ Ok uri → IsText 271 (printed uri)
parsed_printed text uri e = let is = (reads_grammar text uri).0 e in printed_text uri is.path.0 is.within

pub parsed_within : (text : List ℕ) (uri : Uri) → parse_of text ≡ Ok uri → is_within_limits uri.path ≡ true
parsed_within text uri e = let is = (reads_grammar text uri).0 e in is.within

parsed_text : (text : List ℕ) (uri : Uri) → IsUriText text uri → IsText 255 text
parsed_text text uri is = record {
  text = visible_text text (subst IsVisible (sym is.whole)
      (visible_append is.part (query_text uri.query) (part_visible uri.path is.part is.path)
      (query_of_text uri.query).visible));
  few = is.short;
}

-- a text is named where it is read
pub uri_in_text : (o : Option (List ℕ)) → IsOneAtMost 255 (uri_in o)
uri_in_text None = tt
uri_in_text (Some text) = by_read (parse_of text) refl
  where
    by_read : (r : Result Uri UriError) → parse_of text ≡ r → IsOneAtMost 255 (cond (is_ok r) (text ∷ []) [])
    by_read (Ok uri) e = parsed_text text uri ((reads_grammar text uri).0 e)
    by_read (Err x) e = tt
