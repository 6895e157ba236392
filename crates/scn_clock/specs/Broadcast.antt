-- The news of an end, on its way to the other instances.
use Rattle.std.specs.Prelude.{ℕ, Bool}
use Rattle.scn_clock.specs.declared.broadcast.Broadcast.{Broadcast}
use Rattle.inst_set.specs.declared.set.InstSet.{InstSet}
use Rattle.inst_set.specs.Sets.{holds_all, limited_to, no_insts, with_inst}

-- the news of this end, asked of these, of whom none has heard
abbrev pub news_of : ℕ → InstSet → Broadcast
news_of end asked = record { end = end; asked = asked; heard = no_insts }

-- an instance has heard
abbrev pub heard_by : Broadcast → ℕ → Broadcast
heard_by news inst = record news { heard = with_inst news.heard inst }

-- of the asked only the live ones are asked still
abbrev pub limited : Broadcast → InstSet → Broadcast
limited news live = record news { asked = limited_to news.asked live }

-- Each of the asked has heard.
abbrev pub is_whole : Broadcast → Bool
is_whole news = holds_all news.heard news.asked
