-- The headline: what holds of every list of steps, however workers and splits are mixed
use Rattle.std.specs.Prelude.{◌≡◌, List, length}
use Rattle.std.specs.FinMap.{empty}
use Rattle.lh_addr.specs.Settings.{Settings}
use Rattle.lh_bucket.specs.PlainMap.{replies, outcome}
use Rattle.lh_core.specs.declared.event.Event.{Event}
use Rattle.lh_core.specs.declared.state.SplitState.TheVariants as split
use Rattle.lh_core.specs.Log.{Entry, Log, log_of, acts, given}
use Rattle.lh_core.specs.History.{IsHistory}
use Rattle.lh_core.specs.Aims.{AimsLead}
use Rattle.lh_core.specs.Spans.{ActsLieInSpans}
use Rattle.lh_core.specs.Rises.{ActsHaveRisen}
use Rattle.lh_core.specs.World.{WorldSeen, IsPlaced, HaveKeysOnce, HasLevels}

-- The steps of a log have led to a world, and:
pub record HasLedTo (log : Log) (world : WorldSeen) : Type 0 where
  -- each entry and each state is that of the rules
  pub ruled : IsHistory world.config log world.state
  -- the replies are those of one plain map, empty at first, to the calls of the accepted acts in their order
  pub replied : given log ≡ replies empty (acts log)
  -- each accepted act lies between its own call and release
  pub spans : ActsLieInSpans log
  -- between a call's read and its act stand as many rehashes as the level acted on is above the level read
  pub rises : ActsHaveRisen world.config log
  -- at every moment, during a split too, each record of that map stands in the bucket of its address by the filled
  -- buckets, and nowhere else
  pub placed : IsPlaced world.config.initial world.state.filled (outcome empty (acts log)) world.buckets
  -- each of these buckets has its keys once: no record is doubled
  pub once : HaveKeysOnce world.state.filled world.buckets
  -- and each has its local level
  pub levels : HasLevels world.config.initial world.state.filled world.buckets
  -- whenever no split is under way, each record stands in the bucket of its address by the root
  pub at_rest : world.state.splitter ≡ split.Idle →
      IsPlaced world.config.initial world.state.buckets (outcome empty (acts log)) world.buckets
  -- every aim leads to a filled bucket
  pub aims : AimsLead world.config world.state

-- The headline for a list of events: an entry for each event, and the steps have led to the world.
pub record IsHeadline (config : Settings) (events : List Event) (entries : List Entry) (world : WorldSeen)
    : Type 0 where
  pub same : world.config ≡ config
  pub whole : length entries ≡ length events
  pub led : HasLedTo (log_of events entries) world
