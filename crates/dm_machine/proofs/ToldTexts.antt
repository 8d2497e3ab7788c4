-- A text of a device's tree is a text of a message, and the other way round.
use Rattle.std.proofs.Common.{◌≡◌, ◌==◌, ℕ, true, not, List}
use Rattle.std.specs.List.{list_all}
use Rattle.std.specs.Str.{is_utf8}
use Rattle.std.proofs.lemmas.Bool.{and_parts, and_from}
use Rattle.std.proofs.lemmas.Str.{is_utf8-from_IsUtf8, IsUtf8-from_is_utf8}
use Rattle.syncml_types.specs.Canonical.{is_text}
use Rattle.dm_tree.specs.Devices as devices

pub device_text : (t : List ℕ) → is_text t ≡ true → devices.IsText t
device_text t h =
    let parts = and_parts (is_utf8 t) (list_all (λ b. not (b == 0)) t) h in (IsUtf8-from_is_utf8 t parts.0, parts.1)

pub text_of_device : (t : List ℕ) → devices.IsText t → is_text t ≡ true
text_of_device t h =
    and_from (is_utf8 t) (list_all (λ b. not (b == 0)) t) (is_utf8-from_IsUtf8 t h.0) h.1
