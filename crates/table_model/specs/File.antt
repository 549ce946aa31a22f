-- The file of a server, by the cuts of the commits that a crash may leave of it.
use Rattle.std.specs.Prelude.{◌≡◌, Option, Some, None}
use Rattle.table_model.specs.Cut.{Cut}

-- The file: settled on one cut, or in doubt between the cut that it was settled on and a pending one. A crash leaves
-- one of these.
pub data File : Type 0 where
  settled : Cut → File
  doubt : Cut → Cut → File

-- which of the cuts of a file a crash leaves: the one that it was settled on, or the pending one
pub data Which : Type 0 where
  older : Which
  pending : Which

-- the cut that a crash leaves, if the file has it
abbrev pub cut_left : File → Which → Option Cut
cut_left (settled x) older = Some x
cut_left (settled x) pending = None
cut_left (doubt x p) older = Some x
cut_left (doubt x p) pending = Some p

-- a crash may leave this cut
abbrev pub MayLeave : File → Cut → Type 0
MayLeave file c = (which : Which) × (cut_left file which ≡ Some c)

-- the cut that the file is settled on, or was before it came in doubt
abbrev pub sure_cut : File → Cut
sure_cut (settled x) = x
sure_cut (doubt x p) = x

-- the cut on which the next commit builds
abbrev pub newest_cut : File → Cut
newest_cut (settled x) = x
newest_cut (doubt x p) = p

-- the file settled on the pending cut
abbrev pub resolution : File → File
resolution (settled x) = settled x
resolution (doubt x p) = settled p
