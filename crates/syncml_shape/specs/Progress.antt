-- What a Progress stands for.
use Rattle.std.specs.Prelude.{◌≡◌, Option, Some, None}
use Rattle.syncml_shape.specs.declared.progress.Expected.{Expected}
use Rattle.syncml_shape.specs.declared.progress.Expected.TheVariants as progress
use Rattle.syncml_shape.specs.declared.progress.MetaProgress.{MetaProgress}
use Rattle.syncml_shape.specs.declared.rows.Kind.{Kind}
use Rattle.syncml_shape.specs.Rows.{Content, in_order, in_any_order, pieces}

abbrev pub content_of : Expected → Content
content_of (progress.InOrder came rows) = in_order came rows.now
content_of (progress.InAnyOrder meta) = in_any_order meta.wrap meta.came
content_of progress.Pieces = pieces

-- what the next child holds, and what may come behind it
abbrev pub IsNextChild : Option Kind → Expected → Option (Kind × Content) → Type 0
IsNextChild None after x = x ≡ None
IsNextChild (Some kind) after x = x ≡ Some (kind, content_of after)

abbrev pub IsNextInMeta : Option Kind → MetaProgress → Option (Kind × Content) → Type 0
IsNextInMeta None after x = x ≡ None
IsNextInMeta (Some kind) after x = x ≡ Some (kind, in_any_order after.wrap after.came)
