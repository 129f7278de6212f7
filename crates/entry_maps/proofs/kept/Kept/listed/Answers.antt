use Rattle.entry_maps.proofs.kept.Kept.listed.Goals as goal

pub listed-requires-in-Rows : goal.listed-requires-in-Rows
listed-requires-in-Rows c = rw c.in-Rows.is at c.requires
