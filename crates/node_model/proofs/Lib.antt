mod Replying
