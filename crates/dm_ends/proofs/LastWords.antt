-- The commands of a farewell, as they are made.
use Rattle.std.proofs.Common.{◌≡◌, ◌<◌, ◌+◌, ◌^◌, ℕ, Bool, true, false, cond, List, [], ◌∷◌, ◌++◌, length, Option, None}
use Rattle.std.proofs.Common.{Some, IfSome, sym, ◌∙◌, ap, subst, arith}
use Rattle.std.specs.Option.{option_to_list}
use Rattle.syncml_types.specs.declared.values.Header.{Header}
use Rattle.syncml_types.specs.declared.command.Command.{Command}
use Rattle.syncml_types.specs.Message.{Parts}
use Rattle.syncml_types.specs.Fitness.{IsFit}
use Rattle.syncml_parts.specs.Numbering.{ids_in, with_numbers}
use Rattle.dm_headers.specs.Headers.{header_answer, is_withheld, status_of}
use Rattle.dm_pack.specs.Filling.{numbered, IsReadyHeader}
use Rattle.dm_ends.specs.Commands.{alert}
use Rattle.dm_ends.specs.Ready.{IsReadyMessage}
use Rattle.dm_ends.proofs.Answers.{nonce_is}
use Rattle.dm_ends.proofs.ShortFarewells.{last_words_fit}
use Rattle.dm_ends.proofs.Texts.{known_number}

-- the command behind what holds one CmdID, if it is there
pub numbered_last : (status : Option Command) (last : Command) (next : ℕ) → IfSome status (λ s. ids_in s ≡ 1)
    → next ≡ 1 + length (option_to_list status)
    → numbered 1 (option_to_list status) ++ with_numbers next last ∷ []
    ≡ numbered 1 (option_to_list status ++ last ∷ [])
numbered_last None last next one is = ap (λ n. with_numbers n last ∷ []) is
numbered_last (Some s) last next one is =
    ap (λ n. with_numbers 1 s ∷ with_numbers n last ∷ []) (is ∙ ap (λ n. 1 + n) (sym one))

pub few_numbers : (status : Option Command) (next : ℕ) → next ≡ 1 + length (option_to_list status) → next + 1 < 2 ^ 32
few_numbers None next is = omega (arith, is)
few_numbers (Some s) next is = omega (arith, is)

-- a header's Status is one command
pub status_alone : (status : Option Command) (h : Header) (code : ℕ) (nonce : List ℕ)
    → option_to_list status ≡ header_answer h code nonce
    → IfSome status (λ s. ids_in s ≡ 1)
unfolding header_answer ids_in
status_alone None h code nonce is = tt
status_alone (Some s) h code nonce is = alone (is_withheld h code) is
  where
    first_is : {c d : Command} → c ∷ [] ≡ d ∷ [] → c ≡ d
    first_is e = cc

    alone : (b : Bool) → s ∷ [] ≡ cond b [] (status_of h code nonce ∷ []) → ids_in s ≡ 1
    alone true e = absurd (cc)
    alone false e = ap ids_in (first_is e)

pub words_fit : (own : Header) (code : ℕ) (nonce : List ℕ) (m : Parts) (status : Option Command) → IsReadyHeader own
    → IsReadyMessage m nonce → code < 2 ^ 32 → option_to_list status ≡ header_answer m.header code nonce
    → IsFit own (numbered 1 (option_to_list status ++ alert 1223 None [] ∷ []))
words_fit own code nonce m status ready message low is =
    subst (λ cs. IsFit own (numbered 1 (cs ++ alert 1223 None [] ∷ []))) (sym is)
    (last_words_fit own m.header code nonce ready (known_number m message.fit) message.numbers.header.msg low
    (nonce_is nonce message.nonce_long message.nonce_bytes))
