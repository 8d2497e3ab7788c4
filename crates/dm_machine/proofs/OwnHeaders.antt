-- The header of a client's message can be sent.
use Rattle.std.proofs.Common.{◌<◌, ◌≤◌, ◌+◌, ◌^◌, ℕ, List, codes, arith}
use Rattle.std.specs.Fmt.{decimal}
use Rattle.dm_tree.specs.Nodes.{Nodes}
use Rattle.dm_tree.specs.Devices.{device_id, device_path, value_at, IsDeviceLeaf}
use Rattle.dm_auth.specs.declared.accounts.Account.{Account}
use Rattle.dm_headers.specs.Headers.{next_header}
use Rattle.dm_pack.specs.Filling.{IsReadyHeader}
use Rattle.dm_pack.proofs.Ready.{IsText}
use Rattle.dm_ends.proofs.Texts.{decimal_text, short_text, longer}
use Rattle.dm_ends.proofs.Headers.{own_ready, cred_own, user_is}
use Rattle.dm_machine.specs.declared.progress.Progress.{Progress}
use Rattle.dm_machine.specs.Machine.{Machine}
use Rattle.dm_machine.specs.Sending.{header_from}
use Rattle.dm_machine.specs.Ready.{IsDevice, IsReadyAccount, IsReadyLimits}

-- the device's id is a name
pub leaf_text : (m : Nodes) (name : List ℕ) → IsDeviceLeaf m name → IsText 64 (value_at m (device_path name))
leaf_text m name leaf = rw leaf.stands.there (short_text leaf.node.value.bytes leaf.short)

pub header_ready : (c : Machine) (p : Progress) (a : Account) → IsReadyLimits c.limits → IsDevice c.engine.tree
    → IsReadyAccount a → p.number < 2 ^ 32 → p.standing.own + 1 < 2 ^ 32 → IsReadyHeader (header_from c p a)
unfolding next_header
header_ready c p a limits device account number own =
    let object = limits.max_obj in
    own_ready c.limits (decimal p.number) (p.standing.own + 1) a.server (device_id c.engine.tree) a.user _
    (record {
      max_msg = limits.max_msg;
      max_obj = omega (arith, object);
      session_text = decimal_text p.number number;
      some_msg = omega arith;
      low_msg = own;
      target_text = longer 64 255 a.server (omega arith) (short_text a.server account.server);
      source_text = leaf_text c.engine.tree (codes "DevId") device.device.dev_id;
      source_name = user_is a.user account.user;
      own_cred = cred_own p.standing.welcomed a.user a.user_password a.user_nonce;
    })
