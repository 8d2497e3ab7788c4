-- An object that was begun in an Atomic.
use Rattle.std.specs.Prelude.{Bool, false, if◌then◌else◌}
use Rattle.dm_objects.specs.declared.object.Object.{Object}
use Rattle.dm_objects.specs.declared.object.Object.TheVariants.{Nothing, Buffering, Skipping}
use Rattle.dm_objects.specs.Seen.{Seen, present, holding}

-- such an object is being buffered
abbrev pub is_buffering_inside : Object → Bool
is_buffering_inside (Buffering begun) = begun.key.in_atomic
is_buffering_inside Nothing = false
is_buffering_inside (Skipping key code) = false

-- after a failure: an object that is being buffered inside is skipped
abbrev pub stays : Object → Object
stays (Buffering begun) = if begun.key.in_atomic then Skipping begun.key 500 else Buffering begun
stays Nothing = Nothing
stays (Skipping key code) = Skipping key code

abbrev pub failed_inside : Seen → Seen
failed_inside seen =
    if is_buffering_inside (present seen.objects) then holding seen (stays (present seen.objects)) else seen
