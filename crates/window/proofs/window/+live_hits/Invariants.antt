-- The room falls at each call.
use Rattle.window.proofs.window.+live_hits.Given as goal

abbrev pub decreases-live_hits : goal.decreases-live_hits
decreases-live_hits l = l.room
