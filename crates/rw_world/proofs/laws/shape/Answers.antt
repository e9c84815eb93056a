use Rattle.std.proofs.Common.{refl}
use Rattle.rw_world.specs.Kinds.{channel_kind}
use Rattle.rw_world.specs.Machines.{of_broadcast, of_watch}
use Rattle.rw_world.specs.Channel.{no_channel, strays_at, of_channel}
use Rattle.rw_world.specs.ChannelLaws.{kind_stays, strays_by_kind}
use Rattle.rw_world.proofs.Shaping.{keeps_shape, keeps_shape_throughout, strays_by_shape}
use Rattle.rw_world.proofs.laws.shape.Goals as goal

pub returns-clause-keeps : goal.returns-clause-keeps
returns-clause-keeps g c = keeps_shape (of_channel of_broadcast of_watch) channel_kind strays_at (kind_stays of_broadcast of_watch)

pub returns-clause-throughout : goal.returns-clause-throughout
returns-clause-throughout g c = keeps_shape_throughout (of_channel of_broadcast of_watch) channel_kind strays_at no_channel (kind_stays of_broadcast of_watch)

pub returns-clause-strays : goal.returns-clause-strays
returns-clause-strays g c = strays_by_shape (of_channel of_broadcast of_watch) channel_kind strays_at no_channel refl (strays_by_kind of_broadcast of_watch)
