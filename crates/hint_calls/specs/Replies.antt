-- Replies of hypercalls.
use Rattle.std.specs.Prelude.{◌≡◌, ◌≤◌, false}
use Rattle.xv_model.specs.declared.outcomes.HReply.{HReply}
use Rattle.xv_model.specs.call.Accepted.{is_success}

-- a reply has at most four outputs, and none where it refuses
pub record IsReply (r : HReply) : Type 0 where
  pub few : r.outs ≤ 4
  pub bare : is_success r.code ≡ false → r.outs ≡ 0
