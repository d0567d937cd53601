-- One name for the definitions of steps, restarts and trace lines: a proof that says `unfolding computing` computes with all of them.
use Rattle.lists.specs.Lists
use Rattle.lists.specs.Places
use Rattle.lists.specs.Sorting
use Rattle.rules.specs.Events
use Rattle.rules.specs.Identifiers
use Rattle.rules.specs.Log
use Rattle.rules.specs.Refusals
use Rattle.rules.specs.Restart
use Rattle.rules.specs.Signals
use Rattle.rules.specs.Sound
use Rattle.rules.specs.Step
use Rattle.rules.specs.Table
use Rattle.rules.specs.Trace

unfoldable pub computing : Unit {0}
unfolding Lists.all Lists.any Lists.filter Lists.count Lists.first_or Lists.differ Lists.every Places.place_from Places.at_from Places.change_from Places.put_lowest Places.each_from Places.places_from Sorting.insert_by Sorting.sort_by Events.append Events.end_of Events.end_if_done Events.aborted_of Events.abort_of Events.commit_record Events.lacks_room Events.committed_of Events.commit_signals Events.end_committed Events.decide_of Events.start_phase_one Events.begin_of Events.new_enlistment Events.enlist_of Events.commit_of Events.to_lost Events.reaction_of Events.follow Events.react Events.reacted_of Events.ask_of Events.finished Events.end_each Events.reenlisted_of Events.acted Identifiers.same_bytes Identifiers.less_bytes Log.entries_bytes Log.record_bytes Log.all_bytes Log.written Log.size_of Log.entries_of Log.record_of Log.scan Log.behind Log.begins_none Refusals.is_one_of Refusals.names_zero Refusals.is_not_live Refusals.is_not_held Refusals.is_already_live Refusals.is_state_wrong Refusals.is_reaction_refused Refusals.is_already_held Refusals.is_full Refusals.lacks_durable Refusals.stands_elsewhere Refusals.first_of Refusals.checks_of Refusals.refusal_of Restart.after_record Restart.open_after Restart.entries_open Restart.ascend_from Restart.is_fitting Restart.all_fitting Restart.reenlistments Restart.table_of Restart.read_back Restart.restart_of Signals.to_each Signals.padded Signals.row_of Sound.may_hold Sound.must_hold Sound.open_places Sound.sound_of Step.step_of Table.held Table.numbered Table.change_held Table.change_transaction Table.use_more Trace.text Trace.words Trace.value_from Trace.is_numeral Trace.two_words Trace.vote_named Trace.reply_named Trace.three_words Trace.kind_named Trace.mark_named Trace.enlist_line Trace.enlist_line_marked Trace.words_read Trace.command_of Trace.digits Trace.name_text Trace.signal_texts Trace.output_of Trace.obeyed Trace.traced_of
computing = tt
