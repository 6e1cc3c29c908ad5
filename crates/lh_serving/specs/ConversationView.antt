-- What a conversation holds, as its contracts see it
use Rattle.std.specs.String.{string_bytes}
use Rattle.lh_core.specs.Serial.{IsAtRest}
use Rattle.lh_serving.specs.Conversations.{ConversationSeen}
use Rattle.lh_serving.specs.declared.conversation.Conversation.TheInside.{Inside}

abbrev pub conversation_seen : Inside → ConversationSeen
conversation_seen talk = record {
  notation = talk.notation;
  shown = talk.is_terminal;
  world = talk.world;
  records = talk.records;
  missed = talk.missed;
  part = talk.part;
  waiting = string_bytes talk.waiting;
  image = talk.image;
}

-- nobody is at work between two lines
abbrev pub IsIdle : Inside → Type 0
IsIdle talk = IsAtRest talk.world.state
