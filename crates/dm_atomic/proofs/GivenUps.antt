-- What an engine's state is after what is unfinished is given up.
use Rattle.std.proofs.Common.{◌≡◌, ℕ, true, false, List, ◌++◌, refl, sym, ◌∙◌, ap, subst, Option, None}
use Rattle.std.proofs.lemmas.List.{append-nil}
use Rattle.syncml_types.specs.declared.command.Command.{Command}
use Rattle.dm_tree.specs.Rows.{nodes}
use Rattle.dm_undo.specs.Trees.{tree_at}
use Rattle.dm_objects.specs.declared.object.Object.{Object}
use Rattle.dm_objects.specs.declared.object.Object.TheVariants.{Nothing}
use Rattle.dm_objects.specs.Gathering.{buffered_target}
use Rattle.dm_objects.specs.Seen.{Seen, present, holding}
use Rattle.dm_atomic.specs.declared.engine.Engine.{Engine}
use Rattle.dm_atomic.specs.Made.{told, notice}
use Rattle.dm_atomic.specs.Run.{State, Next, parts_undone, opened, break_group, still, abandoned}
use Rattle.dm_atomic.specs.Engine.{state_of, IsSoundEngine, Gives}
use Rattle.dm_atomic.proofs.Gathers.{present-holding}
use Rattle.dm_atomic.proofs.Engines.{sound-holding}
use Rattle.dm_atomic.proofs.Telling.{told_both}

pub cleared_sound : (e : Engine) (i : Seen) → IsSoundEngine e → i ≡ holding e.inbox Nothing
    → IsSoundEngine (record e { inbox = i })
cleared_sound e i s is =
    sound-holding e (record e { inbox = i }) Nothing s (ap (λ (x : Seen). record e { inbox = x }) is) tt

-- the tree before the open group, as a roll back leaves it
abbrev rolled : State → State
rolled s = record s { tree = (opened s).base; group = None }

abbrev given_up : Engine → Object → State
given_up e o = record {
  tree = (tree_at e.journal.entries e.tree.rows e.mark).nodes;
  object = o;
  group = None;
  started = e.started;
}

abbrev closed : Engine → Object → State
closed e o = record { tree = nodes e.tree.rows; object = o; group = None; started = e.started }

rolled-open : (e : Engine) (i : Seen) (s : State) → e.is_open ≡ true → i ≡ holding e.inbox Nothing
    → s ≡ rolled (state_of (record e { inbox = i })) → s ≡ given_up e Nothing
rolled-open e i s o is h =
    h ∙ ap (λ (x : Seen). rolled (state_of (record e { inbox = x }))) is
    ∙ rw o (ap (given_up e) (present-holding e.inbox.objects Nothing))

pub abandoned_open : (e : Engine) (i : Seen) (s : State) → e.is_open ≡ true → i ≡ holding e.inbox Nothing
    → s ≡ rolled (state_of (record e { inbox = i })) → s ≡ abandoned (state_of e)
unfolding abandoned
abandoned_open e i s o is h = rolled-open e i s o is h ∙ rw o refl

pub abandoned_closed : (e : Engine) (i : Seen) → e.is_open ≡ false → i ≡ holding e.inbox Nothing
    → state_of (record e { inbox = i }) ≡ abandoned (state_of e)
unfolding abandoned
abandoned_closed e i o is =
    ap (λ (x : Seen). state_of (record e { inbox = x })) is
    ∙ rw o (ap (closed e) (present-holding e.inbox.objects Nothing))

pub broken_gives : (e : Engine) (i : Seen) (s : State) (target : Option (List ℕ)) (out first second : List Command)
    → e.is_open ≡ true → i ≡ holding e.inbox Nothing → target ≡ buffered_target (present e.inbox.objects)
    → first ≡ out ++ told (notice target) → second ≡ first ++ told (parts_undone e.parts)
    → s ≡ rolled (state_of (record e { inbox = i })) → Gives (break_group (state_of e)) s out second
unfolding break_group
broken_gives e i s target out first second o is t a b h = record {
  state_is = rolled-open e i s o is h ∙ rw o refl;
  told_is =
      told_both out first second (notice target) (parts_undone e.parts) a b
      ∙ rw o (ap (λ x. out ++ told (notice x ++ parts_undone e.parts)) t);
}

pub unbroken_gives : (e : Engine) (out : List Command) → e.is_open ≡ false
    → Gives (break_group (state_of e)) (state_of e) out out
unfolding break_group
unbroken_gives e out o = record { state_is = rw o refl; told_is = rw o (sym (append-nil out)) }

still-breaks : (e : Engine) → e.is_open ≡ true → break_group (state_of e) ≡ still (state_of e)
unfolding break_group still
still-breaks e o = rw o refl

pub still_open : (e : Engine) (s : State) (out after : List Command) → e.is_open ≡ true
    → Gives (break_group (state_of e)) s out after → Gives (still (state_of e)) s out after
still_open e s out after o g = subst (λ (w : Next). Gives w s out after) (still-breaks e o) g

pub still_closed : (e : Engine) (i : Seen) (target : Option (List ℕ)) (out after : List Command) → e.is_open ≡ false
    → i ≡ holding e.inbox Nothing → target ≡ buffered_target (present e.inbox.objects)
    → after ≡ out ++ told (notice target) → Gives (still (state_of e)) (state_of (record e { inbox = i })) out after
unfolding still
still_closed e i target out after o is t a = record {
  state_is =
      ap (λ (x : Seen). state_of (record e { inbox = x })) is
      ∙ rw o (ap (closed e) (present-holding e.inbox.objects Nothing));
  told_is = a ∙ rw o (ap (λ x. out ++ told (notice x)) t);
}
