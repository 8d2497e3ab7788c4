-- What a head says of the body behind it: its fields, as pairs of a name and a value without the white space around it.
use Rattle.std.specs.Prelude.{◌==◌, ◌&&◌, ℕ, Bool, not, if◌then◌else◌, nat_le, List, [], ◌∷◌, length, bytes_eq, codes}
use Rattle.std.specs.List.{list_any}
use Rattle.std.specs.Str.{str_eq_ignore_ascii_case}
use Rattle.std.specs.Str.Parse.{digits_value}
use Rattle.dm_base.specs.Fields.{is_numeral}
use Rattle.dm_heads.specs.declared.extents.BodyExtent.{BodyExtent}
use Rattle.dm_heads.specs.declared.extents.BodyExtent.TheVariants as extent
use Rattle.dm_heads.specs.declared.extents.HeadVerdict.{HeadVerdict}
use Rattle.dm_heads.specs.declared.extents.HeadVerdict.TheVariants as verdict

-- how long a body is at most
abbrev pub body_limit : ℕ
body_limit = 65536

-- names are compared without regard to case
abbrev pub is_named : List ℕ → List ℕ × List ℕ → Bool
is_named name field = str_eq_ignore_ascii_case field.0 name

-- a Content-Length: decimal digits without sign or leading zero, at most 20 of them
abbrev pub extent_stated : List ℕ → BodyExtent
extent_stated text =
    if not (is_numeral text && nat_le (length text) 20) then extent.Faulty
    else if nat_le (digits_value 10 text) body_limit then extent.Sized (digits_value 10 text)
    else extent.TooLong

-- the field of a name may stand once
abbrev pub extent_by : List ℕ → List (List ℕ × List ℕ) → BodyExtent
extent_by name [] = extent.Unsized
extent_by name (f ∷ fs) =
    if not (is_named name f) then extent_by name fs
    else if list_any (is_named name) fs then extent.Faulty
    else extent_stated f.1

-- a body in another form than plain bytes isn't read
unfoldable pub body_extent : List (List ℕ × List ℕ) → BodyExtent
body_extent fields =
    if list_any (is_named (codes "transfer-encoding")) fields then extent.Faulty
    else extent_by (codes "content-length") fields

abbrev pub extent_verdict : BodyExtent → HeadVerdict
extent_verdict extent.Faulty = verdict.BadHead
extent_verdict extent.TooLong = verdict.TooLong
extent_verdict (extent.Sized n) = verdict.Sized n
extent_verdict extent.Unsized = verdict.Unsized

abbrev pub status_verdict : ℕ → BodyExtent → HeadVerdict
status_verdict code extent.Faulty = verdict.BadHead
status_verdict code other = if code == 200 then extent_verdict other else verdict.NotOk code

-- of a reply: a head that isn't read goes before its status, and this before the length
abbrev pub reply_verdict : ℕ → List (List ℕ × List ℕ) → HeadVerdict
reply_verdict code fields = status_verdict code (body_extent fields)

abbrev pub sized_verdict : BodyExtent → HeadVerdict
sized_verdict extent.Unsized = verdict.BadHead
sized_verdict other = extent_verdict other

-- of a request: only POST, and never without its length
abbrev pub request_verdict : List ℕ → List (List ℕ × List ℕ) → HeadVerdict
request_verdict method fields =
    if bytes_eq method (codes "POST") then sized_verdict (body_extent fields) else verdict.BadHead
