-- What elements with children hold before the first of them.
use Rattle.std.specs.Prelude.{false, [], None}
use Rattle.wbxml_tables.specs.declared.Element.{Element}
use Rattle.wbxml_tables.specs.declared.Element.TheVariants.{EAdd, ECopy, EDelete, EExec, EGet}
use Rattle.syncml_shape.specs.declared.rows.Kind.{Kind}
use Rattle.syncml_shape.specs.declared.rows.Kind.TheVariants as kinds
use Rattle.syncml_types.specs.declared.values.Loc.{Loc}
use Rattle.syncml_types.specs.declared.values.Item.{Item}
use Rattle.syncml_types.specs.declared.values.Cred.{Cred}
use Rattle.syncml_types.specs.declared.values.Header.{Header}
use Rattle.syncml_types.specs.declared.command.Verb.{Verb}
use Rattle.syncml_types.specs.declared.command.Verb.TheVariants as verb
use Rattle.syncml_types.specs.declared.command.Plain.{Plain}
use Rattle.syncml_types.specs.declared.command.AlertCmd.{AlertCmd}
use Rattle.syncml_types.specs.declared.command.Block.{Block}
use Rattle.syncml_types.specs.declared.command.StatusCmd.{StatusCmd}
use Rattle.syncml_types.specs.declared.command.ResultsCmd.{ResultsCmd}
use Rattle.syncml_types.specs.Message.{no_meta}
use Rattle.syncml_grammar.specs.declared.draft.BodyDraft.{BodyDraft}
use Rattle.syncml_grammar.specs.declared.draft.MessageDraft.{MessageDraft}
use Rattle.syncml_grammar.specs.declared.draft.Draft.{Draft}
use Rattle.syncml_grammar.specs.declared.draft.Draft.TheVariants as draft

abbrev pub no_loc : Loc
no_loc = record { uri = []; name = None }

abbrev pub no_item : Item
no_item = record { target = None; source = None; meta = None; value = None; more = false }

abbrev pub no_cred : Cred
no_cred = record { meta = None; value = [] }

abbrev pub no_header : Header
no_header = record {
  dtd = [];
  proto = [];
  session = [];
  msg = 0;
  target = no_loc;
  source = no_loc;
  resp_uri = None;
  no_resp = false;
  cred = None;
  meta = None;
}

abbrev pub no_message : MessageDraft
no_message = record { header = None; body = []; last = false }

abbrev pub no_body : BodyDraft
no_body = record { commands = []; last = false }

abbrev pub no_plain : Verb → Plain
no_plain v = record { verb = v; id = 0; no_resp = false; meta = None; correlator = None; items = [] }

abbrev pub no_alert : AlertCmd
no_alert = record { id = 0; no_resp = false; code = 0; correlator = None; items = [] }

abbrev pub no_block : {M : Type 0} → Block M
no_block = record { id = 0; no_resp = false; meta = None; members = [] }

abbrev pub no_status : StatusCmd
no_status = record {
  id = 0;
  msg_ref = 0;
  cmd_ref = 0;
  cmd = [];
  target_refs = [];
  source_refs = [];
  chal = None;
  code = 0;
  items = [];
}

abbrev pub no_results : ResultsCmd
no_results = record {
  id = 0;
  msg_ref = None;
  cmd_ref = 0;
  meta = None;
  target_ref = None;
  source_ref = None;
  items = [];
}

-- the verb of a command with items
abbrev pub verb_of : Element → Verb
verb_of EAdd = verb.Add
verb_of ECopy = verb.Copy
verb_of EDelete = verb.Delete
verb_of EExec = verb.Exec
verb_of EGet = verb.Get
verb_of other = verb.Replace

abbrev pub fresh_draft : Kind → Element → Draft
fresh_draft kinds.Message e = draft.Message no_message
fresh_draft kinds.Header e = draft.Header no_header
fresh_draft kinds.Body e = draft.Body no_body
fresh_draft kinds.Plain e = draft.Plain (no_plain (verb_of e))
fresh_draft kinds.Exec e = draft.Plain (no_plain (verb_of e))
fresh_draft kinds.Alert e = draft.Alert no_alert
fresh_draft kinds.Atomic e = draft.Atomic no_block
fresh_draft kinds.Sequence e = draft.Sequence no_block
fresh_draft kinds.Status e = draft.Status no_status
fresh_draft kinds.Results e = draft.Results no_results
fresh_draft kinds.Item e = draft.Item no_item
fresh_draft kinds.Loc e = draft.Loc no_loc
fresh_draft kinds.Cred e = draft.Cred no_cred
fresh_draft kinds.Chal e = draft.Chal no_meta
fresh_draft other e = draft.Meta no_meta
