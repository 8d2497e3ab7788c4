-- The message with which an end leaves a session.
use Rattle.std.specs.Prelude.{ℕ, true, List, [], ◌∷◌, ◌++◌, None}
use Rattle.syncml_types.specs.declared.values.Header.{Header}
use Rattle.syncml_types.specs.Message.{Parts}
use Rattle.dm_headers.specs.Headers.{header_answer}
use Rattle.dm_pack.specs.Filling.{numbered}
use Rattle.dm_ends.specs.Commands.{alert}

-- the Status of the message's header, and Alert 1223
abbrev pub farewell : Header → Parts → ℕ → List ℕ → Parts
farewell header m code nonce = record {
  header = header;
  body = numbered 1 (header_answer m.header code nonce ++ alert 1223 None [] ∷ []);
  last = true;
}
