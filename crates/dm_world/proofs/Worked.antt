-- Small lists joined, by computing.
use Rattle.std.proofs.Common.{◌≡◌, ℕ, true, false, List, [], ◌∷◌, None, Some, codes, refl}
use Rattle.syncml_types.specs.declared.command.Step.{Step}
use Rattle.syncml_types.specs.declared.command.Verb.TheVariants.{Replace}
use Rattle.dm_atomic.specs.declared.tasks.Named.TheVariants as named
use Rattle.dm_world.specs.Acts.{block, does, join}

-- a Replace of a value below a name
abbrev sets : List ℕ → List ℕ → Step
sets target value = record {
  verb = Replace;
  target = Some target;
  format = None;
  media = None;
  value = value;
  correlator = None;
  in_atomic = false;
}

-- two parts in a Sequence, which comes with each, are one command
two_parts_are_one : join None (block named.Sequence ∷ does (sets (codes "./A") (codes "ab")) true
    ∷ block named.Sequence ∷ does (sets (codes "./A") (codes "cd")) false ∷ [])
    ≡ record {
      whole = block named.Sequence ∷ does (sets (codes "./A") (codes "abcd")) false ∷ [];
      part = None;
    }
two_parts_are_one = refl

-- of a command only parts have come
a_part_is_not_whole : join None (does (sets (codes "./B") (codes "x")) false ∷ does (sets (codes "./A") (codes "ab"))
    true
    ∷ does (sets (codes "./A") (codes "cd")) true ∷ [])
    ≡ record {
      whole = does (sets (codes "./B") (codes "x")) false ∷ [];
      part = Some (sets (codes "./A") (codes "abcd"));
    }
a_part_is_not_whole = refl

-- a part that doesn't continue the one before it leaves that one as it is
a_stranger_leaves_the_part : join None (does (sets (codes "./A") (codes "ab")) true
    ∷ does (sets (codes "./B") (codes "x")) false ∷ [])
    ≡ record {
      whole = does (sets (codes "./A") (codes "ab")) true ∷ does (sets (codes "./B") (codes "x")) false ∷ [];
      part = None;
    }
a_stranger_leaves_the_part = refl
