-- Each event is the one that its function is for; the five about one enlistment have one.
use Rattle.rules.specs.Events.{acted}
use Rattle.rows.specs.Memory.{table_in}
use Rattle.events.proofs.OwnEvent.{own_event, about_event}
use Rattle.events.proofs.on_event.Goals as goal

pub returns-in-Begin : goal.returns-in-Begin
unfolding acted
returns-in-Begin c = own_event (table_in c.args.heads.now c.args.rows.now c.args.capacity c.args.used) c.args.event c.args.log.now c.requires _ c.in-Begin.is (c.begin.ensures c.args.log.now)

pub returns-in-Enlist : goal.returns-in-Enlist
unfolding acted
returns-in-Enlist c = own_event (table_in c.args.heads.now c.args.rows.now c.args.capacity c.args.used) c.args.event c.args.log.now c.requires _ c.in-Enlist.is (c.enlist.ensures c.args.log.now)

pub returns-in-Commit : goal.returns-in-Commit
unfolding acted
returns-in-Commit c = own_event (table_in c.args.heads.now c.args.rows.now c.args.capacity c.args.used) c.args.event c.args.log.now c.requires _ c.in-Commit.is c.commit.ensures

pub returns-in-Rollback : goal.returns-in-Rollback
unfolding acted
returns-in-Rollback c = own_event (table_in c.args.heads.now c.args.rows.now c.args.capacity c.args.used) c.args.event c.args.log.now c.requires _ c.in-Rollback.is c.rollback.ensures

pub returns-in-Ask : goal.returns-in-Ask
unfolding acted
returns-in-Ask c = own_event (table_in c.args.heads.now c.args.rows.now c.args.capacity c.args.used) c.args.event c.args.log.now c.requires _ c.in-Ask.is (c.ask.ensures c.args.log.now)

pub returns-in-Reenlisted : goal.returns-in-Reenlisted
unfolding acted
returns-in-Reenlisted c = own_event (table_in c.args.heads.now c.args.rows.now c.args.capacity c.args.used) c.args.event c.args.log.now c.requires _ c.in-Reenlisted.is c.reenlisted.ensures

pub returns-in-ZeroDone : goal.returns-in-ZeroDone
unfolding acted
returns-in-ZeroDone c = about_event (table_in c.args.heads.now c.args.rows.now c.args.capacity c.args.used) c.args.event c.args.log.now c.requires _ _ c.in-ZeroDone.act-is c.in-ZeroDone.is c.about_one.ensures
