-- What is put at the end of a run.
use Rattle.std.proofs.Common.{◌++◌, ℕ, List, Ok, Err, Some, None, sym, subst, append_assoc, append-nil}
use Rattle.std.proofs.KnownBytes.{Appends-trans}
use Rattle.std.specs.Prelude.{Option, Result, MatchResult, codes}
use Rattle.std.specs.Io.KnownBytes.{Appends}
use Rattle.dm_base.specs.Lines.{line_feed}
use Rattle.dm_base.specs.Outside.{PutsAll}
use Rattle.dm_base.specs.declared.outside.Fault.{Fault}
use Rattle.dm_exit.specs.declared.exit.Exit.{Exit}
use Rattle.dm_exit.specs.Puts.{PutsPrefix, PutsPart}
use Rattle.dm_exit.proofs.Parts.{prefix_of_front, rest_breaks}

pub empty_prefix : (old : Option (List ℕ)) (text : List ℕ) → PutsPrefix old old text
empty_prefix None text = (0, tt)
empty_prefix (Some xs) text = (0, sym (append-nil xs))

-- the tree was put, and then the last line or a part of it
pub last_put : (old mid new : Option (List ℕ)) (tree : List ℕ) (r : Result (Unit {0}) Exit) → Appends old mid tree
    → MatchResult r (λ _. Appends mid new (codes "done" ++ line_feed))
    (λ e. PutsPart mid new (codes "done" ++ line_feed) e)
    → MatchResult r (λ _. Appends old new (tree ++ codes "done" ++ line_feed))
    (λ e. PutsPart old new (tree ++ codes "done" ++ line_feed) e)
last_put old mid new tree (Ok u) first last =
    subst (Appends old new) (sym (append_assoc tree (codes "done") line_feed))
    (Appends-trans old mid new _ _ first last)
last_put old mid new tree (Err e) first last =
    subst (λ l. PutsPart old new l e) (sym (append_assoc tree (codes "done") line_feed))
    (rest_breaks old mid new tree (codes "done" ++ line_feed) e first last)

-- a part of the tree was put
pub tree_in_part : (old new : Option (List ℕ)) (tree : List ℕ) (f : Fault) → PutsAll old new (Err f) tree
    → PutsPrefix old new (tree ++ codes "done" ++ line_feed)
tree_in_part old new tree f h =
    subst (PutsPrefix old new) (sym (append_assoc tree (codes "done") line_feed))
    (prefix_of_front old new tree (codes "done" ++ line_feed) (h.0, h.2))
