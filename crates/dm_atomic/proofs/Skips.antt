-- What an inbox holds after a failure.
use Rattle.std.proofs.Common.{◌≡◌, ℕ, Bool, true, false, refl, sym, ◌∙◌, ap, subst}
use Rattle.std.specs.Prelude.{if◌then◌else◌}
use Rattle.dm_objects.specs.declared.object.Key.{Key}
use Rattle.dm_objects.specs.declared.object.Object.{Object}
use Rattle.dm_objects.specs.declared.object.Object.TheVariants.{Nothing, Buffering, Skipping}
use Rattle.dm_objects.specs.Inside.{is_buffering_inside, stays, failed_inside}
use Rattle.dm_objects.specs.Seen.{Seen, present, holding}
use Rattle.dm_atomic.specs.Engine.{FitsObject}
use Rattle.dm_atomic.proofs.Gathers.{present-holding}

pub held_object : (old new : Seen) (o : Object) → new ≡ holding old o → present new.objects ≡ o
held_object old new o e = ap (λ (s : Seen). present s.objects) e ∙ present-holding old.objects o

pub skipping_fits : (old new : Seen) (key : Key) (code : ℕ) → new ≡ holding old (Skipping key code)
    → FitsObject new.max_obj (present new.objects)
skipping_fits old new key code e =
    subst (FitsObject new.max_obj) (sym (held_object old new (Skipping key code) e)) tt

outside-stays : (o : Object) → is_buffering_inside o ≡ false → stays o ≡ o
outside-stays Nothing e = refl
outside-stays (Buffering begun) e = rw e refl
outside-stays (Skipping key code) e = refl

stays-fit : (max : ℕ) (o : Object) → FitsObject max o → FitsObject max (stays o)
stays-fit max Nothing f = tt
stays-fit max (Buffering begun) f = either begun.key.in_atomic
  where
    either : (b : Bool) → FitsObject max (if b then Skipping begun.key 500 else Buffering begun)
    either true = tt
    either false = f
stays-fit max (Skipping key code) f = tt

failed-is : (old : Seen) (b : Bool) → is_buffering_inside (present old.objects) ≡ b
    → present (if b then holding old (stays (present old.objects)) else old).objects ≡ stays (present old.objects)
failed-is old true e = present-holding old.objects (stays (present old.objects))
failed-is old false e = sym (outside-stays (present old.objects) e)

failed-max : (old : Seen) (b : Bool)
    → (if b then holding old (stays (present old.objects)) else old).max_obj ≡ old.max_obj
failed-max old true = refl
failed-max old false = refl

pub failed_object : (old new : Seen) → new ≡ failed_inside old → present new.objects ≡ stays (present old.objects)
failed_object old new e =
    ap (λ (s : Seen). present s.objects) e ∙ failed-is old (is_buffering_inside (present old.objects)) refl

pub failed_max : (old new : Seen) → new ≡ failed_inside old → new.max_obj ≡ old.max_obj
failed_max old new e =
    ap (λ (s : Seen). s.max_obj) e ∙ failed-max old (is_buffering_inside (present old.objects))

pub failed_fits : (old new : Seen) → new ≡ failed_inside old → FitsObject old.max_obj (present old.objects)
    → FitsObject new.max_obj (present new.objects)
failed_fits old new e f =
    subst (λ n. FitsObject n (present new.objects)) (sym (failed_max old new e))
    (subst (FitsObject old.max_obj) (sym (failed_object old new e)) (stays-fit old.max_obj (present old.objects) f))

-- an object that was begun in an Atomic is given up
pub ruleset failing = (failed_object, failed_max, failed_fits)
