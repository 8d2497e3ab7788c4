-- Both ends as the code has them.
use Rattle.std.specs.Prelude.{◌+◌, ◌++◌, ℕ, Bool, true, false, if◌then◌else◌, List, [], ◌∷◌, codes, Option, None, Some}
use Rattle.dm_base.specs.Lines.{line_feed}
use Rattle.dm_pair.specs.declared.pairing.Pairing.{Pairing as Ends}
use Rattle.dm_pair.specs.declared.text.PairOut.{PairOut}
use Rattle.dm_pair.specs.Pairing.{Pairing, Round, half_down, last_down}
use Rattle.dm_exit.specs.declared.exit.Exit.{Exit}
use Rattle.dm_exit.specs.declared.exit.Exit.TheVariants as exit
use Rattle.dm_job.specs.Texts.{segments}
use Rattle.dm_pair.specs.declared.events.PairEvent.{PairEvent}
use Rattle.dm_pair.specs.Pairing.{step_of}
use Rattle.dm_pair.specs.Texts.{Written, happening, behind_text, ends_at}
use Rattle.dm_pair.specs.From.{rest_written}

abbrev pub seen : Ends → Pairing
seen e = record {
  client = e.client.machine;
  server = e.server;
  ups = e.ups;
  downs = e.downs;
  deliveries = e.deliveries;
}

-- none or one
abbrev pub as_list : Option (List ℕ) → List (List ℕ)
as_list None = []
as_list (Some x) = x ∷ []

-- a round behind its first half: nothing more where no session is open
abbrev pub round_behind : Bool → Pairing → Round
round_behind true p = half_down p (last_down p)
round_behind false p = record { behind = p; stop = Some (codes "nosession") }

abbrev pub wrote : List ℕ → Bool → Written
wrote text bad = record { text = text; bad = bad }

-- what was written, part by part
abbrev pub all_written : PairOut → List ℕ
all_written o = o.lines ++ o.tree ++ o.report

abbrev pub written_in : PairOut → Written
written_in o = wrote (all_written o) o.bad

-- what is written from an event of line n on, or from the end, where these bytes stand behind its line
abbrev pub after_said : ℕ → List (List ℕ) → Pairing → Option PairEvent → List ℕ → Written
after_said n ids p None behind = ends_at (n + 1) p (segments behind)
after_said n ids p (Some e) behind =
    behind_text ((step_of p e).words ++ line_feed) (rest_written (n + 1) (happening ids (step_of p e).behind) behind)

-- what is answered where a line was refused, and where none was
abbrev pub exit_where_bad : Bool → Exit
exit_where_bad bad = if bad then exit.BadInput else exit.Done
