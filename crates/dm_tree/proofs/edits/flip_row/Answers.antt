use Rattle.dm_tree.proofs.Common.{◌≡◌, List, get_or, refl, subst, set, Node, Row, Change, Fits, row_of, ChildList}
use Rattle.dm_tree.proofs.Common.{IsIndex}
use Rattle.dm_tree.proofs.IndexEdits.{index-set, may_put}
use Rattle.dm_tree.proofs.edits.flip_row.Goals as goal

-- another node in the row of which the change speaks
index-node : (rows : List Row) (u v : Change) → Fits rows u → u ≡ v → (was : Row) → was ≡ get_or rows (row_of v) was
    → (n : Node) (index : List ChildList) → IsIndex rows index
    → IsIndex (set rows (row_of v) (record was { node = n })) index
index-node rows u v fits e was is n index kept =
    index-set rows (row_of v) (record was { node = n }) was (subst (Fits rows) e fits).inside is refl refl refl refl
    index kept

pub put_in-requires-clause-out : goal.put_in-requires-clause-out
put_in-requires-clause-out c =
    may_put c.args.rows.now.items c.in-PutIn.id (subst (Fits c.args.rows.now.items) c.in-PutIn.is c.requires.fits)

pub returns-in-Value-clause-index : goal.returns-in-Value-clause-index
returns-in-Value-clause-index c =
    index-node c.args.rows.now.items _ _ c.requires.fits c.in-Value.is c.index_mut-row.result.now
    c.index_mut-row.ensures.value c.swap_counts.new.node c.args.index.now.items c.requires.index

pub returns-in-Bytes-clause-index : goal.returns-in-Bytes-clause-index
returns-in-Bytes-clause-index c =
    index-node c.args.rows.now.items _ _ c.requires.fits c.in-Bytes.is c.index_mut-row-in-Bytes.result.now
    c.index_mut-row-in-Bytes.ensures.value c.swap_counts-in-Bytes.new.node c.args.index.now.items c.requires.index

pub returns-in-Acl-clause-index : goal.returns-in-Acl-clause-index
returns-in-Acl-clause-index c =
    index-node c.args.rows.now.items _ _ c.requires.fits c.in-Acl.is c.index_mut-row-in-Acl.result.now
    c.index_mut-row-in-Acl.ensures.value c.swap_counts-in-Acl.new.node c.args.index.now.items c.requires.index

pub returns-in-Title-clause-index : goal.returns-in-Title-clause-index
returns-in-Title-clause-index c =
    index-node c.args.rows.now.items _ _ c.requires.fits c.in-Title.is c.index_mut-row-in-Title.result.now
    c.index_mut-row-in-Title.ensures.value c.swap_counts-in-Title.new.node c.args.index.now.items c.requires.index
