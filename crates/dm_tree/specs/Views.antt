-- What a View shows.
use Rattle.std.specs.Option.{option_copied}
use Rattle.dm_tree.specs.declared.nodes.Node.{Node}
use Rattle.dm_tree.specs.declared.nodes.View.{View}

-- the node that it shows
abbrev pub shown : View → Node
shown view = record {
  interior = view.interior;
  value = view.value.now;
  acl = option_copied view.acl;
  title = view.title.now;
  verno = view.verno;
  stamp = view.stamp;
  permanent = view.permanent;
  role = view.role;
}
