-- What holds of both ends' messages.
use Rattle.std.specs.Prelude.{◌≡◌, ℕ, Bool, List, None}
use Rattle.dm_base.specs.declared.values.Limits.{Limits}
use Rattle.syncml_types.specs.declared.values.Loc.{Loc}
use Rattle.syncml_types.specs.declared.command.Command.{Command}
use Rattle.dm_headers.specs.declared.standings.Standing.{Standing}
use Rattle.dm_headers.specs.Checks.{Login, fault_of}
use Rattle.dm_headers.specs.Headers.{next_header}
use Rattle.dm_pack.specs.Filling.{numbered}

-- what an end makes has no fault: its versions are right, and no two of its CmdIDs are equal
abbrev pub MakesNoFault : Type 0
MakesNoFault = (login : Login) (s : Standing) (limits : Limits) (session : ℕ) (target source : Loc) (cs : List Command)
    (last : Bool)
    → fault_of (record {
      header = next_header login s limits session target source;
      body = numbered 1 cs;
      last = last;
    }) ≡ None
