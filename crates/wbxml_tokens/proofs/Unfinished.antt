-- Parts that aren't whole.
use Rattle.std.proofs.Common.{ℕ, ◌≡◌, List, length, take, drop, take-append-drop, refl, sym, ap, ◌∙◌, subst}
use Rattle.wbxml_ints.specs.Multibyte.{AreBytes}
use Rattle.wbxml_tokens.specs.declared.reason.Reason.{Reason}
use Rattle.wbxml_tokens.specs.declared.token.Token.{Token}
use Rattle.wbxml_tokens.specs.Fronts.{Front, more, wrong, head, switch, token, front, prologue_at}
use Rattle.wbxml_tokens.specs.Spelled.{IsUnfinishedPrologue, IsUnfinishedPart, UnfinishedPrologueWaits}
use Rattle.wbxml_tokens.specs.Spelled.{UnfinishedPartWaits}
use Rattle.wbxml_tokens.proofs.Spells.{spelled_front, front_spelt, switch_there, no_head}
use Rattle.wbxml_tokens.proofs.Bodies.{switch_front}
use Rattle.wbxml_tokens.proofs.Heads.{prologue_front, prologue_there, OfPrologue, of_prologue}
use Rattle.wbxml_tokens.proofs.Wrongs.{wrong_there, wrong_refused}
use Rattle.wbxml_tokens.proofs.Prologues.{wrong_prologue_there, wrong_prologue_refused}

not_head : (table : List ℕ) (used : ℕ) → more ≡ head table used → ⊥
not_head table used e = cc

not_wrong : (at : ℕ) (reason : Reason) → more ≡ wrong at reason → ⊥
not_wrong at reason e = cc

not_token : (t : Token) (used : ℕ) → more ≡ token t used → ⊥
not_token t used e = cc

not_switch : (page : ℕ) → more ≡ switch page → ⊥
not_switch page e = cc

pub unfinished_prologue_is : (bytes : List ℕ) → prologue_at bytes ≡ more → IsUnfinishedPrologue bytes
unfinished_prologue_is bytes e = record {
  no_prologue = λ table prologue rest is p.
      not_head table (length prologue) (sym e ∙ ap prologue_at is ∙ prologue_front table prologue rest p);
  not_wrong = λ at reason h. not_wrong at reason (sym e ∙ wrong_prologue_refused bytes at reason h);
}

pub prologue_waits : (bytes : List ℕ) (f : Front) → AreBytes bytes → IsUnfinishedPrologue bytes → prologue_at bytes ≡ f
    → prologue_at bytes ≡ more
prologue_waits bytes more fit h e = e
prologue_waits bytes (wrong at reason) fit h e =
    absurd (h.not_wrong at reason (wrong_prologue_there bytes at reason fit e))
prologue_waits bytes (head table used) fit h e =
    absurd (h.no_prologue table (take used bytes) (drop used bytes) (sym (take-append-drop used bytes))
    (prologue_there bytes table used fit e).1)
prologue_waits bytes (switch page) fit h e = absurd (subst OfPrologue e (of_prologue bytes))
prologue_waits bytes (token t used) fit h e = absurd (subst OfPrologue e (of_prologue bytes))

pub unfinished_prologue_waits : UnfinishedPrologueWaits
unfinished_prologue_waits bytes fit =
    (unfinished_prologue_is bytes, λ h. prologue_waits bytes (prologue_at bytes) fit h refl)

pub unfinished_part_is : (page : ℕ) (table bytes : List ℕ) → front page table bytes ≡ more
    → IsUnfinishedPart page table bytes
unfinished_part_is page table bytes e = record {
  no_token = λ t first rest is h.
      not_token t (length first) (sym e ∙ ap (front page table) is ∙ spelled_front page table t first rest h);
  no_switch = λ other rest is low.
      not_switch other (sym e ∙ ap (front page table) is ∙ switch_front page other table rest low);
  not_wrong = λ reason h. not_wrong 0 reason (sym e ∙ wrong_refused page table bytes reason h);
}

pub part_waits : (page : ℕ) (table bytes : List ℕ) (f : Front) → AreBytes bytes → IsUnfinishedPart page table bytes
    → front page table bytes ≡ f
    → front page table bytes ≡ more
part_waits page table bytes more fit h e = e
part_waits page table bytes (wrong at reason) fit h e =
    absurd (h.not_wrong reason (wrong_there page table bytes at reason fit e).1)
part_waits page table bytes (head strings used) fit h e = absurd (no_head page table bytes strings used fit e)
part_waits page table bytes (switch other) fit h e =
    let there = switch_there page table bytes other fit e in absurd (h.no_switch other (drop 2 bytes) there.1 there.0)
part_waits page table bytes (token t used) fit h e =
    absurd (h.no_token t (take used bytes) (drop used bytes) (sym (take-append-drop used bytes))
    (front_spelt page table bytes t used fit e).1)

pub unfinished_part_waits : UnfinishedPartWaits
unfinished_part_waits page table bytes fit =
    (unfinished_part_is page table bytes, λ h. part_waits page table bytes (front page table bytes) fit h refl)
