-- `cover::write::put_u16` meets its contract: its two bytes are copied.
-- Assumes nothing.
use Prim.Native.Nat.{◌+◌}
use mathlib.Core.Path.{◌∙◌}
use native.Mathlib.Omega.{arith}
use Rattle.rules.specs.CoverBytes.{u16_bytes}
use Rattle.rules.proofs.Fields.{field_length}
use Rattle.cover.proofs.Writing.{put_copied, field_bytes}
use Rattle.cover.proofs.write.put_u16.Goals as goal

pub returns : goal.returns
returns c =
    put_copied (u16_bytes c.args.x) (c.args.at + 2) (omega (arith, field_length c.args.x)) c.requires
    (c.copy_from_slice.ensures.after ∙ c.to_le_bytes.ensures ∙ field_bytes c.args.x)
