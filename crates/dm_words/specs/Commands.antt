-- What clap is told of the forms.
use Rattle.std.specs.Prelude.{codes, true}
use Rattle.clap.specs.Words.{App, new_app, with_subcommand}

-- the tool without its subcommands
abbrev pub bare : App
bare = record (new_app (codes "dmtool")) {
  top = record (new_app (codes "dmtool")).top {
    no_binary_name = true;
    disable_help_flag = true;
    disable_help_subcommand = true;
    subcommand_required = true;
  };
}

-- with those that read a trace or a job
abbrev pub of_ends : App
of_ends =
    with_subcommand (with_subcommand (with_subcommand (with_subcommand bare (new_app (codes "replay")).top)
    (new_app (codes "device")).top) (new_app (codes "serve")).top) (new_app (codes "pair")).top

-- with those that read a message or nothing
abbrev pub of_works : App
of_works =
    with_subcommand (with_subcommand (with_subcommand of_ends (new_app (codes "show")).top)
    (new_app (codes "check")).top) (new_app (codes "bench")).top

-- the tool with its subcommands
abbrev pub tool : App
tool = with_subcommand (with_subcommand of_works (new_app (codes "conform")).top) (new_app (codes "make")).top
