use Rattle.std.proofs.Common.{◌≡◌, ◌++◌, ◌/◌, ◌∙◌, Some, None, sym, ap, length, take, arith, take-append-drop}
use Rattle.dm_base.proofs.HexReading.{more_read, none_read, end_read, decodes, read}
use Rattle.dm_base.proofs.digits.many_bytes.Goals as goal

pub loop-rest-preserved : goal.loop-rest-preserved
loop-rest-preserved c =
    let rest = c.loop-rest.rest.now in
    let block = c.split_at.result.0.now in
    let behind = c.split_at.result.1.now in
    let parts : block ++ behind ≡ rest =
    ap (λ l. l ++ behind) c.split_at.ensures.front ∙ ap (λ l. take 32 rest ++ l) c.split_at.ensures.back
    ∙ take-append-drop 32 rest in
    record {
      even = omega (arith, c.split_at.ensures.back_len, c.loop-rest.invariant.even, c.loop-rest-test.true);
      so_far = more_read c.loop-rest.out.items c.in-Some.bytes c.extend_from_slice.new.self.items block behind rest _
          c.loop-rest.invariant.so_far parts (omega (arith, c.split_at.ensures.front_len)) c.in-Some.ensures
          (c.in_ok-extend_from_slice-in-Some).ensures.items;
    }

pub returns-in-None : goal.returns-in-None
returns-in-None c =
    let rest = c.loop-rest.rest.now in
    let block = c.split_at.result.0.now in
    let behind = c.split_at.result.1.now in
    let parts : block ++ behind ≡ rest =
    ap (λ l. l ++ behind) c.split_at.ensures.front ∙ ap (λ l. take 32 rest ++ l) c.split_at.ensures.back
    ∙ take-append-drop 32 rest in
    none_read c.loop-rest.out.items block behind rest (read c.args.text.now) c.loop-rest.invariant.so_far parts
    (omega (arith, c.split_at.ensures.front_len)) c.in-None.ensures ∙ sym (decodes c.args.text.now c.requires)

pub returns-in_ok-extend_from_slice-in-Some-few_bytes : goal.returns-in_ok-extend_from_slice-in-Some-few_bytes
returns-in_ok-extend_from_slice-in-Some-few_bytes c =
    let rest = c.loop-rest.rest.now in
    ap Some (c.of_vec.ensures ∙ (c.in_ok-extend_from_slice-in-Some-few_bytes).ensures.items)
    ∙ end_read c.loop-rest.out.items rest (Some (take (length rest / 2) (c.in-Some-few_bytes).bytes))
    (read c.args.text.now) c.loop-rest.invariant.so_far c.loop-rest.invariant.even (c.in-Some-few_bytes).ensures
    ∙ sym (decodes c.args.text.now c.requires)

pub returns-in-None-few_bytes : goal.returns-in-None-few_bytes
returns-in-None-few_bytes c =
    end_read c.loop-rest.out.items c.loop-rest.rest.now None (read c.args.text.now) c.loop-rest.invariant.so_far
    c.loop-rest.invariant.even (c.in-None-few_bytes).ensures ∙ sym (decodes c.args.text.now c.requires)
